-- What the words of screens mean in a memory.
use Rattle.std.specs.Prelude.{◌≡◌, ℕ, Bool, true, false, if◌then◌else◌, List, [], ◌∷◌, Option, Some, None, codes}
use Rattle.memory.specs.declared.controls.Control.TheVariants as ctl
use Rattle.memory.specs.Controls as controls
use Rattle.memory.specs.Bytes.{cell}
use Rattle.dictionary.specs.Header.{is_immediate, compilation_address}
use Rattle.dictionary.specs.Search.{Sought, Found, Nowhere, TooLong, sought_from}
use Rattle.compiling_words.specs.Code.{runtime}
use Rattle.colon_bodies.specs.Tokens.{Token, NAME, TEXT, TICK, FORCE, COMPILE, SEMI}
use Rattle.colon_bodies.specs.Meaning.{Sense, is_barred, by_spelling, keyword_first}
use Rattle.colon_bodies.specs.Rules.{half_after}
use Rattle.colon_bodies.specs.declared.words.Half.{Half}
use Rattle.source_words.specs.Words.{SourceWord}
use Rattle.image_builder.specs.Spelled.{keyword, sense_of_word, text_of}
use Rattle.resident_bodies.specs.Words.{row_of}
use Rattle.metacompiler.specs.declared.rows.TheConstants as rows

-- what a name stands for after what is half read, by its header; any control may be named
abbrev pub named_token : List ℕ → Half → ℕ → Option Token
named_token m h l = if is_barred h false (is_immediate m l) then None else Some (NAME (compilation_address m l))

abbrev pub name_first : List ℕ → Half → Sought → Sense → Option Token
name_first m h (Found l) s = named_token m h l
name_first m h Nowhere s = by_spelling (λ w. Some w) None None s
name_first m h TooLong s = None

-- after ['] and [COMPILE] a word is a name first, elsewhere a keyword
abbrev pub token_as : List ℕ → Half → Sought → Sense → Option Token
token_as m h l s = keyword_first (λ w. Some w) h s (name_first m h l s)

-- what a word of a body is, after what is half read
abbrev pub token_of : List ℕ → (voc : ℕ) → Half → SourceWord → Option Token
token_of m voc h w = token_as m h (sought_from m voc w.name) (sense_of_word w.name (text_of w.text))

-- the name after ['] and [COMPILE] is on their screen
abbrev pub IsBeside : Token → SourceWord → List SourceWord → Type 0
IsBeside TICK v (w ∷ ws) = w.screen ≡ v.screen
IsBeside FORCE v (w ∷ ws) = w.screen ≡ v.screen
IsBeside _ v ws = Unit {0}

-- words are these in a body, each after what those before it leave half read; others may follow them
abbrev pub Means : List ℕ → (voc : ℕ) → Half → List SourceWord → List Token → (rest : List SourceWord) → Type 0
Means m voc h ws [] rest = ws ≡ rest
Means m voc h [] (k ∷ ks) rest = ⊥
Means m voc h (w ∷ ws) (k ∷ ks) rest =
    (token_of m voc h w ≡ Some k) × IsBeside k w ws × Means m voc (half_after h k) ws ks rest

-- a name is found in a vocabulary, or in FORTH, with this number in its code field and this immediate bit
pub record Key (m : List ℕ) (voc : ℕ) (name : List ℕ) (number : ℕ) (immediate : Bool) : Type 0 where
  pub link : ℕ
  pub found : sought_from m voc name ≡ Found link
  pub bit : is_immediate m link ≡ immediate
  pub code : cell m (compilation_address m link) ≡ number

-- the row of a keyword's primitive
abbrev pub number_or : Option ℕ → ℕ
number_or (Some n) = n
number_or None = 0

abbrev pub number_of : Token → ℕ
number_of TICK = rows.BRACKET_TICK
number_of FORCE = rows.BRACKET_COMPILE
number_of SEMI = rows.SEMICOLON
number_of (TEXT false text) = rows.DOT_QUOTE
number_of (TEXT true text) = rows.ABORT_QUOTE
number_of w = number_or (row_of w)

-- what is asked of a keyword's name: its primitive, immediate; of COMPILE the primitive at runtime cell 19, which is
-- not immediate
abbrev pub IsKey : List ℕ → (voc : ℕ) → List ℕ → Token → Type 0
IsKey m voc name COMPILE =
    (l : ℕ) × (sought_from m voc name ≡ Found l) × (is_immediate m l ≡ false) × (compilation_address m l ≡ runtime m (controls.number_of ctl.Compile))
IsKey m voc name w = Key m voc name (number_of w) true

-- the words that the resident compiler knows, as a vocabulary has them
pub record Keys (m : List ℕ) (voc : ℕ) : Type 0 where
  pub colon : Key m voc (codes ":") rows.COLON false
  pub paren : Key m voc (codes "(") rows.PAREN true
  pub keywords : (name text : List ℕ) (w : Token) → keyword name text ≡ Some w → IsKey m voc name w
