-- What SEE answers.
use Rattle.std.specs.Prelude.{◌≡◌, ◌≢◌, ℕ, false, true, List, ◌++◌, Some, None, Result, Ok, Err, Vec, slice_index, ◌⊎◌}
use Rattle.std.specs.declared.alloc.Global.{Global}
use Rattle.memory.specs.Bytes.{cell}
use Rattle.dictionary.specs.Header.{compilation_address}
use Rattle.dictionary.specs.Order.{is_beyond_limit}
use Rattle.dictionary.specs.Search.{Found, Nowhere, TooLong, sought}
use Rattle.colon_bodies.specs.Tree.{Definition}
use Rattle.colon_bodies.specs.Tokens.{Token}
use Rattle.colon_bodies.specs.Plain.{AreApart}
use Rattle.colon_bodies.specs.Code.{whole_code}
use Rattle.see.specs.Shown.{IsThread, IsWithinBounds}
use Rattle.see.specs.Extent.{parameter_field, extent, controls_of}
use Rattle.see.specs.Naming.{words_fault, first_fault, IsReadable}
use Rattle.see.specs.ReadAgain.{AreCells, IsReadAs}
use Rattle.see.specs.Printing.{its_words, all_printed, printed_text, text}
use Rattle.source_words.specs.Spaced.{spaced_behind}
use Rattle.see.specs.declared.refusal.SeeRefused.{SeeRefused}
use Rattle.see.specs.declared.refusal.SeeRefused.TheVariants as r

-- the name means the header at l, and no limit is passed by all headers
pub record IsHeader (m name : List ℕ) (l : ℕ) : Type 0 where
  pub is : sought m name ≡ Found l
  pub within : is_beyond_limit m ≡ false

-- a colon word: its code field is 1
abbrev pub IsColon : List ℕ → List ℕ → ℕ → Type 0
IsColon m name l = IsHeader m name l × (cell m (compilation_address m l) ≡ 1)

-- its extent is the code of this plain definition
abbrev pub IsCode : List ℕ → ℕ → Definition → Type 0
IsCode m l d = IsThread (slice_index (controls_of m)) (parameter_field m l) (extent m (parameter_field m l)) d

abbrev pub HasControlsApart : List ℕ → Type 0
HasControlsApart m = AreApart (slice_index (controls_of m))

-- a colon word whose extent is the code of a definition, and the first fault of its names, numbers and texts
pub record IsDefined (m name : List ℕ) (l : ℕ) (d : Definition) : Type 0 where
  pub colon : IsColon m name l
  pub apart : HasControlsApart m
  pub code : IsCode m l d

-- words are written after what was written, or are refused for their first fault
abbrev pub IsWritten : List ℕ → (hidden : ℕ) → List Token → (old new : List ℕ) → Result (Unit {0}) SeeRefused → Type 0
IsWritten m hidden ws old new (Ok u) = (words_fault m hidden ws ≡ None) × AreCells ws × (new ≡ old ++ spaced_behind (all_printed m hidden ws))
IsWritten m hidden ws old new (Err e) = words_fault m hidden ws ≡ Some e

-- these words printed, or the first fault of a definition of them
abbrev pub IsPrinted : List ℕ → ℕ → List ℕ → List Token → (bytes : List ℕ) → Result (Unit {0}) SeeRefused → Type 0
IsPrinted m l name ws bytes (Ok u) = (first_fault m l name ws ≡ None) × AreCells ws × (bytes ≡ printed_text m l name ws)
IsPrinted m l name ws bytes (Err e) = first_fault m l name ws ≡ Some e

-- the text of a readable definition
abbrev pub IsShown : List ℕ → List ℕ → List ℕ → Type 0
IsShown m name bytes =
    (l : ℕ) × (d : Definition) × IsDefined m name l d × IsReadable m l name (its_words d) × AreCells (its_words d) × (bytes ≡ text m l name d)

-- why there is none
abbrev pub IsUnseen : List ℕ → List ℕ → SeeRefused → Type 0
IsUnseen m name r.NotFound = sought m name ≡ Nowhere
IsUnseen m name r.ChainTooLong = (sought m name ≡ TooLong) ⊎ ((l : ℕ) × (sought m name ≡ Found l) × (is_beyond_limit m ≡ true))
IsUnseen m name r.NotColon = (l : ℕ) × IsHeader m name l × (cell m (compilation_address m l) ≢ 1)
IsUnseen m name r.NotStructured = (l : ℕ) × IsColon m name l × (HasControlsApart m → (d : Definition) → IsCode m l d → ⊥)
IsUnseen m name r.OutOfMemory = Unit {0}
IsUnseen m name e = (l : ℕ) × (d : Definition) × IsDefined m name l d × (first_fault m l name (its_words d) ≡ Some e)

-- what is answered
abbrev pub IsSeen : List ℕ → List ℕ → Result (Vec ℕ Global) SeeRefused → Type 0
IsSeen m name (Ok v) = IsShown m name v.items
IsSeen m name (Err e) = IsUnseen m name e

-- the same of a text that lies in a room
abbrev pub IsSeenIn : List ℕ → List ℕ → (bytes : List ℕ) → Result (Unit {0}) SeeRefused → Type 0
IsSeenIn m name bytes (Ok u) = IsShown m name bytes
IsSeenIn m name bytes (Err e) = IsUnseen m name e

-- bytes that are read, as a source is, as this definition, which is within a source's bounds and written as the word's extent
pub record IsAgain (m : List ℕ) (l : ℕ) (name : List ℕ) (bytes : List ℕ) (e : Definition) : Type 0 where
  pub read : IsReadAs m l name bytes e
  pub within : IsWithinBounds (slice_index (controls_of m)) e
  pub is : whole_code (slice_index (controls_of m)) e (parameter_field m l) ≡ extent m (parameter_field m l)

-- bytes that are read so as a definition of the colon word that the name means
abbrev pub IsReadBack : List ℕ → List ℕ → List ℕ → Type 0
IsReadBack m name bytes = (l : ℕ) × (e : Definition) × IsColon m name l × IsAgain m l name bytes e
