use Rattle.std.proofs.Common.{◌≡◌, ℕ, ◌+◌, ◌^◌, ◌%◌, ◌/◌, ◌<◌, ◌≤◌, List, [], ◌∷◌, ◌++◌, length, reverse, refl, arith, IsTrue, ◌==◌, true, false, inl, inr, length-append}
use Rattle.std.proofs.lemmas.Bool.{cases_lt}
use Rattle.std.proofs.lemmas.List.{reverse-append}
use Rattle.std.proofs.lemmas.Int.Digits.{digits_of_step, length-digits_of-le}
use Rattle.std.specs.Int.Digits.{digits_of}
use Rattle.std.proofs.Math.Nat.{div-eq_of_lt, div-lt_self, le-div_iff_mul-le, pow-le-pow_left}
use Rattle.cells.specs.Cell.{difference}
use Rattle.memory.specs.Bytes.{put_byte}
use Rattle.number_text.specs.Digits.{is_base, byte_of, expansion}
use Rattle.number_text.specs.Picture.{put_down}

quotient_some : (n b : ℕ) → 0 < b → b ≤ n → 0 < n / b
quotient_some n b h q = (le-div_iff_mul-le {k = b} {x = 1} {y = n} h).1 (omega arith)

pub expansion_zero : (b n : ℕ) → n ≤ 0 → expansion b n ≡ 0 ∷ []
unfolding expansion
expansion_zero b n h = let z : (n == 0) ≡ true = grind arith in rw z refl

pub expansion_some : (b n : ℕ) → 0 < n → expansion b n ≡ digits_of b n
unfolding expansion
expansion_some b n h = let z : (n == 0) ≡ false = grind arith in rw z refl

-- the highest digit alone
expansion_last : (b n : ℕ) → 2 ≤ b → n < b → expansion b n ≡ n % b ∷ []
expansion_last b n h q = grind (arith, cases_lt, expansion_some, digits_of_step, div-eq_of_lt, expansion_zero)

-- the digits of the quotient, then the remainder
expansion_more : (b n : ℕ) → 2 ≤ b → b ≤ n → expansion b n ≡ expansion b (n / b) ++ n % b ∷ []
expansion_more b n h q = grind (arith, quotient_some, expansion_some, digits_of_step)

pub count_last : (b n : ℕ) → IsTrue (is_base b) → n < b → length (expansion b n) ≡ 1
count_last b n h q = let l : 2 ≤ b = grind arith in rw (expansion_last b n l q) refl

pub count_more : (b n : ℕ) → IsTrue (is_base b) → b ≤ n → length (expansion b n) ≡ 1 + length (expansion b (n / b))
count_more b n h q = grind (arith, expansion_more, length-append)

-- a double has at most 32 digits
pub count_most : (b n : ℕ) → IsTrue (is_base b) → n < 4294967296 → length (expansion b n) ≤ 32
count_most b n h q =
    let l : 2 ≤ b = grind arith in
    let p : 2 ^ 32 ≤ b ^ 32 = pow-le-pow_left l 32 in
    elim (cases_lt 0 n) [
      | inl s ↦ rw (expansion_some b n s) (length-digits_of-le b 32 n l (omega arith))
      | inr z ↦ rw (expansion_zero b n z) (omega arith)
    ]

-- the quotient is less
pub quotient_less : (b n : ℕ) → IsTrue (is_base b) → b ≤ n → (n / b < n) × (expansion b n ≡ expansion b n)
quotient_less b n h q = let l : 2 ≤ b = grind arith in (div-lt_self {n = n} {k = b} (omega arith) (omega arith), refl)

pub ruleset counts = (count_last, count_more, count_most, quotient_less)

pub put_last : (m : List ℕ) (end b n : ℕ) → IsTrue (is_base b) → n < b → put_down m end (reverse (expansion b n)) ≡ put_byte m (difference end 1) (byte_of (n % b))
unfolding put_down
put_last m end b n h q = let l : 2 ≤ b = grind arith in rw (expansion_last b n l q) refl

pub put_more : (m : List ℕ) (end b n : ℕ) → IsTrue (is_base b) → b ≤ n →
    put_down m end (reverse (expansion b n)) ≡ put_down (put_byte m (difference end 1) (byte_of (n % b))) (difference end 1) (reverse (expansion b (n / b)))
unfolding put_down
put_more m end b n h q =
    let l : 2 ≤ b = grind arith in
    rw (expansion_more b n l q, reverse-append (expansion b (n / b)) (n % b ∷ [])) refl

pub ruleset puts = (put_last, put_more, quotient_less)
