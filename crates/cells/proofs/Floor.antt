use Rattle.std.proofs.Common.{◌≡◌, ℕ, zero, suc, ◌≢◌, ap, arith, refl, ℤ, pos, negsuc, ◌+ℤ◌, ◌*ℤ◌, neg_ℤ, int_lt, false, ◌≤ℤ◌, ◌<ℤ◌, ◌<◌}
use Rattle.std.proofs.Math.IntN.{negsuc-*ℤ-pos, *ℤ-negsuc}
use Rattle.std.proofs.lemmas.Int.{ints}
use Rattle.std.specs.Int.{int_div_euclid, int_rem_euclid}
use Rattle.cells.specs.Cell.{floor_quotient, floor_remainder, IsBetween}

euclid : (n : ℤ) (b : ℕ) → 0 < b → int_div_euclid n (pos b) *ℤ pos b +ℤ int_rem_euclid n (pos b) ≡ n
euclid (pos a) b h = ap pos (omega arith)
euclid (negsuc a) b h = rw negsuc-*ℤ-pos (omega (arith, ints))

flip : (p r n : ℤ) → p +ℤ r ≡ neg_ℤ n → neg_ℤ p +ℤ neg_ℤ r ≡ n
flip p r n e = omega (arith, ints)

-- a number is its quotient by m times m, and the remainder
pub floor_law : (n m : ℤ) → m ≢ pos 0 → floor_quotient n m *ℤ m +ℤ floor_remainder n m ≡ n
unfolding floor_quotient floor_remainder
floor_law n (pos zero) h = absurd (h refl)
floor_law n (pos (suc b)) h =
    let e : int_lt (pos (suc b)) (pos 0) ≡ false = grind (arith, ints) in rw e (euclid n (suc b) (omega arith))
floor_law n (negsuc b) h = rw *ℤ-negsuc (flip (int_div_euclid (neg_ℤ n) (pos (suc b)) *ℤ pos (suc b)) (int_rem_euclid (neg_ℤ n) (pos (suc b))) n (euclid (neg_ℤ n) (suc b) (omega arith)))

rest : (n : ℤ) (b : ℕ) → 0 < b → (pos 0 ≤ℤ int_rem_euclid n (pos b)) × (int_rem_euclid n (pos b) <ℤ pos b)
rest (pos a) b h = (omega (arith, ints), omega (arith, ints))
rest (negsuc a) b h = (omega (arith, ints), omega (arith, ints))

under : (r : ℤ) (b : ℕ) → (pos 0 ≤ℤ r) × (r <ℤ pos (suc b)) → (negsuc b <ℤ neg_ℤ r) × (neg_ℤ r ≤ℤ pos 0)
under r b h = let low : pos 0 ≤ℤ r = h.0 in let high : r <ℤ pos (suc b) = h.1 in (omega (arith, ints), omega (arith, ints))

-- the remainder is between 0 and the divisor
pub remainder_law : (n m : ℤ) → m ≢ pos 0 → IsBetween (floor_remainder n m) m
unfolding floor_remainder
remainder_law n (pos zero) h = absurd (h refl)
remainder_law n (pos (suc b)) h =
    let e : int_lt (pos (suc b)) (pos 0) ≡ false = grind (arith, ints) in rw e (rest n (suc b) (omega arith))
remainder_law n (negsuc b) h = under (int_rem_euclid (neg_ℤ n) (pos (suc b))) b (rest (neg_ℤ n) (suc b) (omega arith))
