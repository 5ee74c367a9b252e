-- A definition's text read again as a source is, with the names and the runtime cells of the same memory.
use Rattle.std.specs.Prelude.{◌≡◌, ◌<◌, ℕ, Bool, not, ◌==◌, ◌&&◌, List, [], ◌∷◌, Option, Some, None, if◌then◌else◌, map, codes, slice_index}
use Rattle.std.specs.List.{list_any}
use Rattle.memory.specs.Controls.{number_of}
use Rattle.memory.specs.declared.controls.Control.TheVariants as ctl
use Rattle.dictionary.specs.Header.{is_immediate, compilation_address}
use Rattle.dictionary.specs.Search.{Sought, Found, Nowhere, TooLong, sought_hiding}
use Rattle.source_words.specs.declared.modes.Mode.TheVariants.{Outside}
use Rattle.source_words.specs.Words.{screen_words}
use Rattle.source_words.specs.Spaced.{Spelling, spelling, bare}
use Rattle.colon_bodies.specs.Tokens.{Token, NAME, NUMBER}
use Rattle.colon_bodies.specs.Meaning.{Sense, is_barred, by_spelling, keyword_first}
use Rattle.colon_bodies.specs.Tree.{Definition}
use Rattle.colon_bodies.specs.Rules.{half_after}
use Rattle.colon_bodies.specs.declared.words.Half.{Half}
use Rattle.colon_bodies.specs.declared.words.Half.TheVariants.{Free}
use Rattle.image_builder.specs.Spelled.{sense_of_word, text_of}
use Rattle.see.specs.Extent.{controls_of}
use Rattle.see.specs.Printing.{its_words}

-- the controls that only a keyword or a number writes
abbrev pub inner_controls : List ℕ
inner_controls =
    number_of ctl.Literal ∷ number_of ctl.Branch ∷ number_of ctl.ZeroBranch ∷ number_of ctl.Do ∷ number_of ctl.Loop
    ∷ number_of ctl.PlusLoop ∷ number_of ctl.ShowText ∷ number_of ctl.AbortText ∷ number_of ctl.Does ∷ []

-- the address is that of one of them
unfoldable pub is_inner : List ℕ → ℕ → Bool
is_inner controls w = list_any (λ k. not (slice_index controls k == 0) && (w == slice_index controls k)) inner_controls

-- what a name stands for after what is half read, by its header
abbrev pub named_token : List ℕ → Half → ℕ → Option Token
named_token m h k =
    if is_barred h (is_inner (controls_of m) (compilation_address m k)) (is_immediate m k) then None
    else Some (NAME (compilation_address m k))

abbrev pub name_first : List ℕ → Half → Sought → Sense → Option Token
name_first m h (Found k) s = named_token m h k
name_first m h Nowhere s = by_spelling (λ w. Some w) None None s
name_first m h TooLong s = None

-- after ['] and [COMPILE] a word is a name first, elsewhere a keyword
abbrev pub token_as : List ℕ → Half → Sought → Sense → Option Token
token_as m h l s = keyword_first (λ w. Some w) h s (name_first m h l s)

-- what a word of a body is, after what is half read; the header at `hidden` counts as hidden
abbrev pub token_of : List ℕ → (hidden : ℕ) → Half → Spelling → Option Token
token_of m hidden h w = token_as m h (sought_hiding m w.name hidden) (sense_of_word w.name (text_of w.text))

abbrev pub half_past : Half → Option Token → Half
half_past h None = h
half_past h (Some w) = half_after h w

-- what words of a body are, each after what those before it leave half read
abbrev pub tokens_of : List ℕ → (hidden : ℕ) → Half → List Spelling → List (Option Token)
tokens_of m hidden h [] = []
tokens_of m hidden h (w ∷ ws) = token_of m hidden h w ∷ tokens_of m hidden (half_past h (token_of m hidden h w)) ws

-- numbers are cells
abbrev pub AreCells : List Token → Type 0
AreCells [] = Unit {0}
AreCells (NUMBER n ∷ ws) = (n < 65536) × AreCells ws
AreCells (_ ∷ ws) = AreCells ws

-- bytes are read as this definition of a name, if the header at l counts as hidden: `: NAME`, its words and ;
pub record IsReadAs (m : List ℕ) (l : ℕ) (name : List ℕ) (bytes : List ℕ) (d : Definition) : Type 0 where
  pub body : List Spelling
  pub words_are : (screen : ℕ) → map spelling (screen_words Outside screen bytes) ≡ bare (codes ":") ∷ bare name ∷ body
  pub tokens_are : tokens_of m l Free body ≡ map (λ w. Some w) (its_words d)
