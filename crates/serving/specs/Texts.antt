-- Texts that are gathered before they are sent.
use Rattle.std.specs.Prelude.{◌≡◌, ◌≤◌, ◌<◌, ℕ, List, Bool, true, false, length}
use Rattle.serving.specs.declared.text.TheConstants.{TEXT_ROOM}

-- the bytes so far, and whether more came than there is room for
pub record Gathered : Type 0 where
  pub bytes : List ℕ
  pub failed : Bool

-- these bytes are a text in its room, or they don't fit there
abbrev pub Gathers : (fits : Bool) → (text bytes : List ℕ) → Type 0
Gathers true text bytes = (text ≡ bytes) × (length bytes ≤ TEXT_ROOM)
Gathers false text bytes = TEXT_ROOM < length bytes
