-- What the cells of a thread are called, and what can't be printed so that it is read again.
use Rattle.std.specs.Prelude.{ℕ, Bool, true, false, not, ◌==◌, ◌&&◌, List, [], ◌∷◌, Option, Some, None, if◌then◌else◌, length, ◌≡◌}
use Rattle.std.specs.List.{list_all}
use Rattle.std.specs.Fmt.{signed_decimal}
use Rattle.cells.specs.Cell.{signed}
use Rattle.dictionary.specs.Header.{name_of, compilation_address}
use Rattle.dictionary.specs.Order.{headers}
use Rattle.dictionary.specs.Extents.{header_at}
use Rattle.dictionary.specs.Search.{Sought, Found, Nowhere, TooLong, sought_hiding}
use Rattle.colon_bodies.specs.Tokens.{Token, NAME, NUMBER, TEXT}
use Rattle.see.specs.declared.refusal.SeeRefused.{SeeRefused}
use Rattle.see.specs.declared.refusal.SeeRefused.TheVariants as r

abbrev pub name_if : List ℕ → Option ℕ → List ℕ
name_if m None = []
name_if m (Some l) = name_of m l

-- what an address is called: by the name of the lowest header with this compilation address; the empty one if there is none
unfoldable pub name_at : List ℕ → ℕ → List ℕ
name_at m w = name_if m (header_at m (headers m) w)

-- a number as a signed decimal
unfoldable pub number_text : ℕ → List ℕ
number_text n = signed_decimal (signed n)

-- a name that is one word: it has a byte, and no blank
unfoldable pub is_word : List ℕ → Bool
is_word name = not (length name == 0) && list_all (λ b. not (b == 32)) name

-- a text without a quote
unfoldable pub is_quotable : List ℕ → Bool
is_quotable text = list_all (λ b. not (b == 34)) text

-- a search came to a header with this compilation address
abbrev pub gives : List ℕ → Sought → ℕ → Bool
gives m (Found k) w = compilation_address m k == w
gives m Nowhere w = false
gives m TooLong w = false

-- it came to none
abbrev pub gives_none : Sought → Bool
gives_none Nowhere = true
gives_none (Found k) = false
gives_none TooLong = false

-- the search of a name gives this address, if the header at `hidden` counts as hidden
unfoldable pub is_meant : List ℕ → (hidden : ℕ) → List ℕ → ℕ → Bool
is_meant m hidden name w = gives m (sought_hiding m name hidden) w

-- it ends with none
unfoldable pub is_free : List ℕ → (hidden : ℕ) → List ℕ → Bool
is_free m hidden name = gives_none (sought_hiding m name hidden)

-- a word that can be printed and read again: a name that is one word and means its address, the word itself being hidden; a
-- number whose text is no name; a text without a quote
abbrev pub IsReadableWord : List ℕ → (hidden : ℕ) → Token → Type 0
IsReadableWord m hidden (NAME w) = (is_word (name_at m w) ≡ true) × (is_meant m hidden (name_at m w) w ≡ true)
IsReadableWord m hidden (NUMBER n) = is_free m hidden (number_text n) ≡ true
IsReadableWord m hidden (TEXT k text) = is_quotable text ≡ true
IsReadableWord m hidden _ = Unit {0}

abbrev pub AreReadableWords : List ℕ → (hidden : ℕ) → List Token → Type 0
AreReadableWords m hidden [] = Unit {0}
AreReadableWords m hidden (w ∷ ws) = IsReadableWord m hidden w × AreReadableWords m hidden ws

-- so is a definition of these words, of this name, whose header is at l
pub record IsReadable (m : List ℕ) (l : ℕ) (name : List ℕ) (ws : List Token) : Type 0 where
  pub named : is_word name ≡ true
  pub words : AreReadableWords m l ws

-- what is wrong with a word of a body
abbrev pub word_fault : List ℕ → (hidden : ℕ) → Token → Option SeeRefused
word_fault m hidden (NAME w) =
    if not (is_word (name_at m w)) then Some (r.Nameless w) else if is_meant m hidden (name_at m w) w then None else Some r.Shadowed
word_fault m hidden (NUMBER n) = if is_free m hidden (number_text n) then None else Some r.Shadowed
word_fault m hidden (TEXT k text) = if is_quotable text then None else Some r.BadText
word_fault m hidden _ = None

abbrev pub or_fault : Option SeeRefused → Option SeeRefused → Option SeeRefused
or_fault None more = more
or_fault (Some e) more = Some e

-- the first fault of some words
abbrev pub words_fault : List ℕ → (hidden : ℕ) → List Token → Option SeeRefused
words_fault m hidden [] = None
words_fault m hidden (w ∷ ws) = or_fault (word_fault m hidden w) (words_fault m hidden ws)

-- what is wrong with a definition of this name, whose header is at l: the name comes first
abbrev pub first_fault : List ℕ → (l : ℕ) → List ℕ → List Token → Option SeeRefused
first_fault m l name ws = if is_word name then words_fault m l ws else Some (r.Nameless (compilation_address m l))
