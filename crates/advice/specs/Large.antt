-- Numbers that a cell has no room for.
use Rattle.std.specs.Prelude.{◌≡◌, ◌<◌, ◌+◌, ◌*◌, ◌-◌, ℕ, List, [], ◌∷◌, Bool, true, false, ◌&&◌, ◌==◌, nat_lt, nat_le, min, if◌then◌else◌, length, Option, Some, None, IsTrue, IsFalse}

-- what a byte shows as a digit: 0 to 9, then letters in either case; 36 if it shows none
unfoldable pub digit : ℕ → ℕ
digit byte =
    if nat_lt byte 48 then 36 else if nat_lt byte 58 then byte - 48 else if nat_lt byte 65 then 36 else if nat_lt byte 91 then byte - 55
    else if nat_lt byte 97 then 36 else if nat_lt byte 123 then byte - 87 else 36

-- each byte shows a digit of the base
unfoldable pub are_digits : (base : ℕ) → (text : List ℕ) → Bool
are_digits base [] = true
are_digits base (byte ∷ text) = nat_lt (digit byte) base && are_digits base text

-- what digits stand for that come after a number
unfoldable pub continued : (base number : ℕ) → (text : List ℕ) → ℕ
continued base number [] = number
continued base number (byte ∷ text) = continued base (number * base + digit byte) text

-- there is a digit, all bytes are digits of the base, and they stand for more than that
abbrev pub is_above : (base most : ℕ) → (text : List ℕ) → Bool
is_above base most text = nat_lt 0 (length text) && (are_digits base text && nat_lt most (continued base 0 text))

-- what is answered for digits: what they stand for, up to 65,536; nothing if they are none
abbrev pub IsValue : (base : ℕ) → (text : List ℕ) → Option ℕ → Type 0
IsValue base text (Some value) =
    (0 < length text) × (are_digits base text ≡ true) × (value ≡ min 65536 (continued base 0 text))
IsValue base text None = (nat_lt 0 (length text) && are_digits base text) ≡ false

-- the base that the sign before a number says: `$` (36), `#` (35) and `%` (37); without one the base that is set
abbrev pub base_of : (text : List ℕ) → (base : ℕ) → ℕ
base_of [] base = base
base_of (byte ∷ text) base = if byte == 36 then 16 else if byte == 35 then 10 else if byte == 37 then 2 else base

-- what comes after it
abbrev pub after_sign : (text : List ℕ) → List ℕ
after_sign [] = []
after_sign (byte ∷ text) = if byte == 36 then text else if byte == 35 then text else if byte == 37 then text else byte ∷ text

-- below -32,768, if it begins with `-` (45), or above 65,535
abbrev pub is_beyond : (base : ℕ) → (text : List ℕ) → Bool
is_beyond base [] = false
is_beyond base (byte ∷ text) = if byte == 45 then is_above base 32768 text else is_above base 65535 (byte ∷ text)

-- the word is a number of a base from 2 to 36 that a cell of 16 bits has no room for
abbrev pub is_large : (word : List ℕ) → (base : ℕ) → Bool
is_large word base = nat_le 2 (base_of word base) && (nat_le (base_of word base) 36 && is_beyond (base_of word base) (after_sign word))
