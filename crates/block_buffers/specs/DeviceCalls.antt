-- The calls of a device of blocks, with their pages.
use Rattle.std.specs.Prelude.{◌≡◌, ℕ, List, [], ◌==◌, cond, refl}
use Rattle.std.specs.Coded.{Coded, code_by, coded×, coded_ℕ, coded_list}

-- a call: which block, and the page that a read gave, or that a write was handed
pub data DeviceCall : Type 0 where
  WasRead : (block : ℕ) → (page : List ℕ) → DeviceCall
  ReadFailed : (block : ℕ) → DeviceCall
  WasWritten : (block : ℕ) → (page : List ℕ) → DeviceCall
  WriteFailed : (block : ℕ) → (page : List ℕ) → DeviceCall

-- how the logic stores a call
abbrev pub Parts : Type 0
Parts = ℕ × (ℕ × List ℕ)

abbrev pub to_parts : DeviceCall → Parts
to_parts (WasRead block page) = (0, (block, page))
to_parts (ReadFailed block) = (1, (block, []))
to_parts (WasWritten block page) = (2, (block, page))
to_parts (WriteFailed block page) = (3, (block, page))

abbrev pub of_parts : Parts → DeviceCall
of_parts p =
    cond (p.0 == 0) (WasRead p.1.0 p.1.1) (cond (p.0 == 1) (ReadFailed p.1.0)
    (cond (p.0 == 2) (WasWritten p.1.0 p.1.1) (WriteFailed p.1.0 p.1.1)))

pub of_parts-to_parts : (c : DeviceCall) → of_parts (to_parts c) ≡ c
of_parts-to_parts (WasRead block page) = refl
of_parts-to_parts (ReadFailed block) = refl
of_parts-to_parts (WasWritten block page) = refl
of_parts-to_parts (WriteFailed block page) = refl

abbrev pub call_coded : Coded DeviceCall
call_coded = code_by Parts (coded× coded_ℕ (coded× coded_ℕ (coded_list coded_ℕ))) to_parts of_parts of_parts-to_parts
