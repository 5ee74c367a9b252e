-- Numbers that stop growing at 65,536.
use Rattle.std.proofs.Common.{◌≡◌, ◌==◌, ℕ, ◌+◌, ◌*◌, ◌<◌, ◌≤◌, List, [], ◌∷◌, Bool, ◌&&◌, nat_lt, true, false, length, drop, slice_index, min, refl, arith, inl, inr, sym, ◌∙◌}
use Rattle.std.proofs.lemmas.Bool.{cases_lt}
use Rattle.std.proofs.lemmas.List.{drop_more, drop_all}
use Rattle.std.proofs.Math.Nat.{le-mul_of_pos_right}
use Rattle.advice.specs.Large.{are_digits, continued, digit}

more : (n base d : ℕ) → 0 < base → 65536 ≤ n → 65536 ≤ n * base + d
more n base d h k = let m : n ≤ n * base = le-mul_of_pos_right n h in omega arith

grows : (base n : ℕ) (t : List ℕ) → 0 < base → 65536 ≤ n → 65536 ≤ continued base n t
unfolding continued
grows base n [] h k = k
grows base n (byte ∷ t) h k = grows base (n * base + digit byte) t h (more n base (digit byte) h k)

least : (n : ℕ) → 65536 ≤ n → min 65536 n ≡ 65536
least n h = omega arith

below : (n : ℕ) → n < 65536 → min 65536 n ≡ n
below n h = omega arith

pub capped : (base n : ℕ) (t : List ℕ) → 0 < base → min 65536 (continued base n t) ≡ min 65536 (continued base (min 65536 n) t)
capped base n t h = elim (cases_lt n 65536) [
  | inl small ↦ rw (below n small) refl
  | inr big ↦ rw (least n big) (least (continued base n t) (grows base n t h big) ∙ sym (least (continued base 65536 t) (grows base 65536 t h (omega arith))))
]

-- one digit more
pub digits_more : (base i : ℕ) (t : List ℕ) → i < length t → digit (slice_index t i) < base → are_digits base (drop i t) ≡ are_digits base (drop (i + 1) t)
unfolding are_digits
digits_more base i t h q = rw (drop_more t i 0 h) (grind arith)

pub value_more : (base n i : ℕ) (t : List ℕ) → i < length t → digit (slice_index t i) < base →
    min 65536 (continued base n (drop i t)) ≡ min 65536 (continued base (min 65536 (n * base + digit (slice_index t i))) (drop (i + 1) t))
unfolding continued
value_more base n i t h q = rw (drop_more t i 0 h) (capped base (n * base + digit (slice_index t i)) (drop (i + 1) t) (omega arith))

-- a byte that is no digit
pub digits_stop : (base i : ℕ) (t : List ℕ) → i < length t → base ≤ digit (slice_index t i) → are_digits base (drop i t) ≡ false
unfolding are_digits
digits_stop base i t h q = rw (drop_more t i 0 h) (grind arith)

-- after all bytes
pub digits_end : (base i : ℕ) (t : List ℕ) → length t ≤ i → are_digits base (drop i t) ≡ true
unfolding are_digits
digits_end base i t h = rw (drop_all i t h) refl

pub value_end : (base n i : ℕ) (t : List ℕ) → length t ≤ i → n ≤ 65536 → min 65536 (continued base n (drop i t)) ≡ n
unfolding continued
value_end base n i t h k = rw (drop_all i t h) (omega arith)

pub filled : (n : ℕ) (r : Bool) → r ≡ (n == 0) → r ≡ false → 0 < n
filled n r p q = grind arith
