-- Good sources, and the first fault of any other.
use Rattle.std.specs.Prelude.{◌≡◌, ◌≢◌, ℕ, ◌+◌, ◌⊎◌, nat_lt, ◌==◌, ◌&&◌, if◌then◌else◌, List, [], ◌∷◌, ◌++◌, length, Option, Some, None, is_some, Result, Ok, Err}
use Rattle.std.specs.Option.{option_map}
use Rattle.colon_bodies.specs.Tokens.{Token}
use Rattle.colon_bodies.specs.declared.words.Half.TheVariants.{Free}
use Rattle.colon_bodies.specs.Meaning.{by_spelling}
use Rattle.image_builder.specs.Places.{Place}
use Rattle.image_builder.specs.Items.{Items, item_words, head_size, kind_size, end_of, names, controls, boot}
use Rattle.image_builder.specs.declared.entry.Lead.{Lead}
use Rattle.image_builder.specs.declared.entry.Lead.TheVariants.{Makes, Defines, Starts}
use Rattle.image_builder.specs.declared.spot.Sort.{Sort}
use Rattle.image_builder.specs.declared.cause.Cause.{Cause}
use Rattle.colon_bodies.specs.Faults as body
use Rattle.colon_bodies.specs.Rules as rules
use Rattle.image_builder.specs.declared.spot.Sort.TheVariants as s
use Rattle.image_builder.specs.declared.cause.Cause.TheVariants as c
use Rattle.image_builder.specs.Meanings.{look, record_named, meaning}
use Rattle.image_builder.specs.Grammar.{may_name, AreSound}
use Rattle.image_builder.specs.Causes.{cause_of}
use Rattle.image_builder.specs.Stages.{Stage, body_at, IsFront, Whole, Counted, Due, Chosen, Inside}

-- the cause of a number, by the sort of the word after it
abbrev pub figure_cause : Items → (n : ℕ) → Sort → Option Cause
figure_cause t n s.Allot = if nat_lt n 32768 then None else Some c.BadNumber
figure_cause t n s.Prim = if may_name t n then None else Some c.BadPrimitive
figure_cause t n _ = None

abbrev pub next_sort : List Place → Sort
next_sort [] = s.Other
next_sort (p ∷ ps) = p.sort

-- of a word where an item begins
abbrev pub item_cause : Items → (w : Place) → (after : List Place) → Sort → Option Cause
item_cause t w after s.Double = Some c.BadNumber
item_cause t w after (s.Number n) = figure_cause t n (next_sort after)
item_cause t w after s.Variable = None
item_cause t w after s.Create = None
item_cause t w after s.Vocabulary = None
item_cause t w after s.Colon = None
item_cause t w after s.Immediate = if length (names t) == 0 then Some c.Misplaced else None
item_cause t w after s.Boot = if is_some (boot t) then Some c.Misplaced else None
item_cause t w after s.Other =
    if is_some (record_named t w) then None
    else if is_some (look t w) then Some c.Misplaced
    else Some c.Unknown
item_cause t w after _ = Some c.Misplaced

-- of a word after a number
abbrev pub counted_cause : (limit : ℕ) → Items → (n : ℕ) → Sort → Option Cause
counted_cause limit t n s.Double = Some c.BadNumber
counted_cause limit t n s.Prim = None
counted_cause limit t n s.Constant = None
counted_cause limit t n s.Comma = if nat_lt limit (end_of t + 2) then Some c.Full else None
counted_cause limit t n s.CharComma = if nat_lt limit (end_of t + 1) then Some c.Full else None
counted_cause limit t n s.Allot = if nat_lt n 32768 && nat_lt limit (end_of t + n) then Some c.Full else None
counted_cause limit t n _ = Some c.Misplaced

-- of a word that is due as a name: of a header with these bytes, or of BOOT
abbrev pub header_cause : (limit : ℕ) → Items → (w : Place) → (size : ℕ) → Option Cause
header_cause limit t w size =
    if nat_lt 31 (length w.name) then Some c.BadName
    else if nat_lt limit (end_of t + size) then Some c.Full
    else None

abbrev pub name_cause : (limit : ℕ) → Items → (w : Place) → Lead → Option Cause
name_cause limit t w (Makes k) = header_cause limit t w (head_size w + kind_size k)
name_cause limit t w Defines = header_cause limit t w (head_size w)
name_cause limit t w Starts = if is_some (look t w) then None else by_spelling (λ x. Some c.Misplaced) (Some c.Misplaced) (Some c.Unknown) w.inner

-- of a word after a vocabulary's name
abbrev pub vocabulary_cause : Sort → Option Cause
vocabulary_cause s.Double = Some c.BadNumber
vocabulary_cause s.Definitions = None
vocabulary_cause _ = Some c.Misplaced

-- of a word in a body, by what it means
abbrev pub inner_cause : (rt : ℕ → ℕ) → (at limit : ℕ) → (before : List Token) → Result Token Cause → Option Cause
inner_cause rt at limit before (Ok w) = option_map cause_of (body.body_cause rt at limit before w)
inner_cause rt at limit before (Err d) = Some d

-- why a word is refused after these items and what is started of the next, if it is; some words come after it
abbrev pub cause_at : (limit : ℕ) → Items → Stage → (w : Place) → (after : List Place) → Option Cause
cause_at limit t Whole w after = item_cause t w after w.sort
cause_at limit t (Counted n) w after = counted_cause limit t n w.sort
cause_at limit t (Due l) w after = name_cause limit t w l
cause_at limit t (Chosen v) w after = vocabulary_cause w.sort
cause_at limit t (Inside p before) w after = inner_cause (controls t) (body_at t p) limit before (meaning (rules.half_of Free before) t w)

-- the first fault of a source: screen and offset, and the cause; ends at the offset 1024 of the last screen
abbrev pub IsFault : (limit : ℕ) → List Place → (last screen offset : ℕ) → Cause → Type 0
IsFault limit source last screen offset c.OutOfMemory = Unit {0}
IsFault limit source last screen offset c.EndsInside =
    (screen ≡ last) × (offset ≡ 1024) × ((t : Items) × (ws : List Place) × (stage : Stage) × IsFront limit source t ws stage × (stage ≢ Whole))
IsFault limit source last screen offset c.NoBoot =
    (screen ≡ last) × (offset ≡ 1024) × ((t : Items) × IsFront limit source t [] Whole × (boot t ≡ None))
IsFault limit source last screen offset cause =
    (before : List Place) × (w : Place) × (after : List Place) × (t : Items) × (ws : List Place) × (stage : Stage)
    × (source ≡ before ++ w ∷ after) × (screen ≡ w.screen) × (offset ≡ w.offset) × IsFront limit before t ws stage × (cause_at limit t stage w after ≡ Some cause)

-- no fault is found in it, lack of memory aside
abbrev pub HasNoFault : (limit : ℕ) → List Place → Type 0
HasNoFault limit source = (last screen offset : ℕ) (cause : Cause) → IsFault limit source last screen offset cause → cause ≡ c.OutOfMemory

-- these are one and the same fault, lack of memory aside
abbrev pub IsSameFault : (screen offset : ℕ) → Cause → (screen' offset' : ℕ) → Cause → Type 0
IsSameFault p o a q n b = (a ≡ c.OutOfMemory) ⊎ (b ≡ c.OutOfMemory) ⊎ ((p ≡ q) × (o ≡ n) × (a ≡ b))

-- a good source
pub record IsGood (limit : ℕ) (source : List Place) (t : Items) (entry : ℕ) : Type 0 where
  pub is : source ≡ item_words t
  pub sound : AreSound limit t
  pub starts : boot t ≡ Some entry
