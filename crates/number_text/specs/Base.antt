-- The base of numbers.
use Rattle.std.specs.Prelude.{◌≡◌, ℕ, List, Bool, Result, Ok, Err, IsTrue, IsFalse}
use Rattle.memory.specs.Bytes.{cell}
use Rattle.memory.specs.declared.system.TheConstants.{BASE}
use Rattle.number_text.specs.declared.base.BadBase.{BadBase}
use Rattle.number_text.specs.Digits.{is_base}

-- what BASE holds is a base
unfoldable pub has_base : List ℕ → Bool
has_base m = is_base (cell m BASE)

abbrev pub IsBaseOf : List ℕ → Result ℕ BadBase → Type 0
IsBaseOf m (Ok base) = IsTrue (has_base m) × (base ≡ cell m BASE) × IsTrue (is_base base)
IsBaseOf m (Err _) = IsFalse (has_base m)
