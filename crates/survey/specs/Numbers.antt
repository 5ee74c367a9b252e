-- Parts of numbers, as words spell them.
use Rattle.std.specs.Prelude.{ℕ, ◌-◌, ◌%◌, Bool, true, false, List, [], ◌∷◌}
use Rattle.std.specs.Char.{is_ascii_digit}

abbrev pub begins_with_digit : List ℕ → Bool
begins_with_digit [] = false
begins_with_digit (first ∷ more) = is_ascii_digit first

-- the 16 low bits of a number, or of the same below 0
abbrev pub low : (is_negative : Bool) → (size : ℕ) → ℕ
low false size = size % 65536
low true size = (65536 - size % 65536) % 65536

-- the number, or 0 if it is below that
abbrev pub above_0 : (is_negative : Bool) → (size : ℕ) → ℕ
above_0 false size = size
above_0 true size = 0
