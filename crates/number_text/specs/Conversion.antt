-- CONVERT: digits in memory that are read after a number.
use Rattle.std.specs.Prelude.{ℕ, ◌+◌, ◌≡◌, List, length, Result, Ok, Err, IsTrue, IsFalse}
use Rattle.cells.specs.Cell.{wrap}
use Rattle.memory.specs.Bytes.{cell, bytes}
use Rattle.memory.specs.declared.system.TheConstants.{BASE}
use Rattle.number_text.specs.declared.base.BadBase.{BadBase}
use Rattle.number_text.specs.Digits.{leading_digits, continued}
use Rattle.number_text.specs.Base.{has_base}

-- the digits of BASE from a + 1 on, which are at most 65,535
unfoldable pub digits_behind : List ℕ → ℕ → List ℕ
digits_behind m a = leading_digits (cell m BASE) (bytes m (wrap (a + 1)) 65535)

-- the address after them
unfoldable pub address_behind : List ℕ → ℕ → ℕ
address_behind m a = wrap (wrap (a + 1) + length (digits_behind m a))

-- the number with these digits after its own, and the address after them
abbrev pub IsConverted : List ℕ → ℕ → ℕ → Result (ℕ × ℕ) BadBase → Type 0
IsConverted m number a (Ok p) =
    IsTrue (has_base m)
    × (p.0 ≡ continued (cell m BASE) number (digits_behind m a))
    × (p.1 ≡ address_behind m a)
IsConverted m number a (Err _) = IsFalse (has_base m)
