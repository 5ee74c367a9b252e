-- Facts on the bits of a count byte: each holds of every length that a name can have.
use Rattle.std.proofs.Common.{◌≡◌, ℕ, zero, suc, ◌+◌, ◌<◌, ◌==◌, Bool, true, refl, arith, inl, inr, subst}
use Rattle.std.specs.Prelude.{◌&&◌}
use Rattle.std.specs.Int.RustNames.{bit_and, bit_or}
use Rattle.std.proofs.lemmas.Bool.{cases_lt, eqb-true}

-- a test holds of all numbers below k
abbrev pub all_below : (ℕ → Bool) → (k : ℕ) → Bool
all_below f zero = true
all_below f (suc n) = f n && all_below f n

pub and_left : (a b : Bool) → (a && b) ≡ true → a ≡ true
and_left a b e = grind arith

pub and_right : (a b : Bool) → (a && b) ≡ true → b ≡ true
and_right a b e = grind arith

pub below : (f : ℕ → Bool) (k n : ℕ) → all_below f k ≡ true → n < k → f n ≡ true
below f zero n h l = absurd (omega arith)
below f (suc k) n h l = elim (cases_lt n k) [
  | inl a ↦ below f k n (and_right (f k) (all_below f k) h) a
  | inr b ↦ let e : k ≡ n = omega arith in subst (λ x. f x ≡ true) e (and_left (f k) (all_below f k) h)
]

abbrev same : (f g : ℕ → ℕ) → ℕ → Bool
same f g n = f n == g n

same_below : (f g : ℕ → ℕ) → all_below (same f g) 32 ≡ true → (n : ℕ) → n < 32 → f n ≡ g n
same_below f g h n l = eqb-true (f n) (g n) (below (same f g) 32 n h l)

pub header_bit : (n : ℕ) → n < 32 → bit_or n 128 ≡ 128 + n
header_bit = same_below (λ n. bit_or n 128) (λ n. 128 + n) refl

pub hidden_bit : (n : ℕ) → n < 32 → bit_or (128 + n) 32 ≡ 160 + n
hidden_bit = same_below (λ n. bit_or (128 + n) 32) (λ n. 160 + n) refl

pub immediate_bit : (n : ℕ) → n < 32 → bit_or (128 + n) 64 ≡ 192 + n
immediate_bit = same_below (λ n. bit_or (128 + n) 64) (λ n. 192 + n) refl

pub revealed_bits : (n : ℕ) → n < 32 → bit_and (160 + n) 223 ≡ 128 + n
revealed_bits = same_below (λ n. bit_and (160 + n) 223) (λ n. 128 + n) refl

pub length_bits : (n : ℕ) → n < 32 → bit_and (128 + n) 31 ≡ n
length_bits = same_below (λ n. bit_and (128 + n) 31) (λ n. n) refl

pub hidden_length_bits : (n : ℕ) → n < 32 → bit_and (160 + n) 31 ≡ n
hidden_length_bits = same_below (λ n. bit_and (160 + n) 31) (λ n. n) refl

-- no bit of these
abbrev none_of : (count bit : ℕ) → ℕ → ℕ
none_of count bit n = bit_and (count + n) bit

pub shown_bits : (n : ℕ) → n < 32 → bit_and (128 + n) 32 ≡ 0
shown_bits = same_below (none_of 128 32) (λ n. 0) refl

pub hidden_bits : (n : ℕ) → n < 32 → bit_and (160 + n) 32 ≡ 32
hidden_bits = same_below (none_of 160 32) (λ n. 32) refl

pub plain_bits : (n : ℕ) → n < 32 → bit_and (128 + n) 64 ≡ 0
plain_bits = same_below (none_of 128 64) (λ n. 0) refl

pub plain_hidden_bits : (n : ℕ) → n < 32 → bit_and (160 + n) 64 ≡ 0
plain_hidden_bits = same_below (none_of 160 64) (λ n. 0) refl
