-- Pictures of numbers in memory.
use Rattle.std.specs.Prelude.{ℕ, ◌+◌, ◌/◌, ◌%◌, ◌≡◌, if◌then◌else◌, List, [], ◌∷◌, length, map, Result, Ok, Err, IsTrue, IsFalse}
use Rattle.cells.specs.Cell.{wrap, difference, is_negative}
use Rattle.memory.specs.Bytes.{cell, bytes, put_byte, put_cell, put_bytes}
use Rattle.memory.specs.declared.system.TheConstants.{BASE, DP, HLD}
use Rattle.number_text.specs.declared.base.BadBase.{BadBase}
use Rattle.number_text.specs.Digits.{byte_of, expansion}
use Rattle.number_text.specs.Base.{has_base}

-- PAD
unfoldable pub pad : List ℕ → ℕ
pad m = wrap (cell m DP + 340)

-- HLD is PAD
unfoldable pub opened : List ℕ → List ℕ
opened m = put_cell m HLD (pad m)

-- HLD is lowered by one, and then the byte exists
unfoldable pub held : List ℕ → ℕ → List ℕ
held m byte = put_byte (put_cell m HLD (difference (cell m HLD) 1)) (difference (cell m HLD) 1) byte

-- a `-` is held if the cell n is negative
unfoldable pub signed_picture : List ℕ → ℕ → List ℕ
signed_picture m n = if is_negative n then held m 45 else m

-- the digit of the remainder is held
unfoldable pub with_digit : List ℕ → ℕ → List ℕ
with_digit m number = held m (byte_of (number % cell m BASE))

-- HLD is lowered by the count of digits, and from there on they are put
unfoldable pub with_digits : List ℕ → ℕ → List ℕ
with_digits m number =
    let ds = expansion (cell m BASE) number in
    let a = difference (cell m HLD) (length ds) in
    put_bytes (put_cell m HLD a) a (map byte_of ds)

-- the bytes from the new HLD on show the number in BASE
abbrev pub Shows : List ℕ → List ℕ → ℕ → Type 0
Shows old new number =
    let ds = expansion (cell old BASE) number in
    bytes new (difference (cell old HLD) (length ds)) (length ds) ≡ map byte_of ds

-- digits put down from the address end, the lowest first: each in the byte below the one before
unfoldable pub put_down : List ℕ → ℕ → List ℕ → List ℕ
put_down m end [] = m
put_down m end (d ∷ ds) = put_down (put_byte m (difference end 1) (byte_of d)) (difference end 1) ds

-- what the calls that read BASE make of memory
abbrev pub IsDigitPictured : List ℕ → List ℕ → ℕ → Result ℕ BadBase → Type 0
IsDigitPictured old new number (Ok rest) =
    IsTrue (has_base old) × (new ≡ with_digit old number) × (rest ≡ number / cell old BASE)
IsDigitPictured old new number (Err _) = IsFalse (has_base old) × (new ≡ old)

abbrev pub AreDigitsPictured : List ℕ → List ℕ → ℕ → Result Unit BadBase → Type 0
AreDigitsPictured old new number (Ok _) = IsTrue (has_base old) × (new ≡ with_digits old number)
AreDigitsPictured old new number (Err _) = IsFalse (has_base old) × (new ≡ old)
