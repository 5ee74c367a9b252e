-- Digits, the bytes that show them, and the numbers that they stand for.
use Rattle.std.specs.Prelude.{◌≡◌, ℕ, ◌+◌, ◌-◌, ◌*◌, ◌^◌, ◌%◌, ◌<◌, ◌≤◌, List, [], ◌∷◌, Bool, ◌&&◌, nat_lt, nat_le, ◌==◌, if◌then◌else◌, length, map, take_while, IsTrue, IsFalse}
use Rattle.std.specs.List.{list_all}
use Rattle.std.specs.Int.Digits.{digits_of}

-- the bases that numbers are read and written in
abbrev pub is_base : ℕ → Bool
is_base base = nat_le 2 base && nat_le base 72

-- the byte that shows a digit: `0` (48) shows 0, `A` (65) shows 10
abbrev pub byte_of : ℕ → ℕ
byte_of d = if nat_lt d 10 then 48 + d else 55 + d

-- the digit that a byte shows; 65,536, which is below no base, if the byte comes before `0`, or between `9` and `A`
unfoldable pub digit : ℕ → ℕ
digit byte =
    if nat_lt byte 48 then 65536 else if nat_lt byte 58 then byte - 48 else if nat_lt byte 65 then 65536 else byte - 55

-- the byte shows a digit below the base
unfoldable pub is_digit : ℕ → ℕ → Bool
is_digit base byte = nat_lt (digit byte) base

unfoldable pub are_digits : ℕ → List ℕ → Bool
are_digits base text = list_all (is_digit base) text

-- the digits that a text begins with
unfoldable pub leading_digits : ℕ → List ℕ → List ℕ
leading_digits base text = take_while (is_digit base) text

-- what digits stand for: the sum of digit times power of the base
unfoldable pub value : ℕ → List ℕ → ℕ
value base [] = 0
value base (d ∷ ds) = d * base ^ length ds + value base ds

-- what the digits of a text stand for
unfoldable pub text_value : ℕ → List ℕ → ℕ
text_value base text = value base (map digit text)

-- a number with the digits of a text after its own, modulo 2^32
unfoldable pub continued : ℕ → ℕ → List ℕ → ℕ
continued base number text = (number * base ^ length text + text_value base text) % 4294967296

-- the digits of a number in a base, the highest first: no leading zero, and 0 is the one digit 0
unfoldable pub expansion : ℕ → ℕ → List ℕ
expansion base number = if number == 0 then 0 ∷ [] else digits_of base number

-- what is answered for a byte
abbrev pub IsDigit : ℕ → ℕ → ℕ → Type 0
IsDigit base byte d = (d ≡ digit byte) × (d < base)

abbrev pub IsNoDigit : ℕ → ℕ → Type 0
IsNoDigit base byte = base ≤ digit byte

-- and for a text
abbrev pub IsContinued : ℕ → ℕ → List ℕ → ℕ → Type 0
IsContinued base start text number = IsTrue (are_digits base text) × (number ≡ continued base start text)

abbrev pub AreNoDigits : ℕ → List ℕ → Type 0
AreNoDigits base text = IsFalse (are_digits base text)
