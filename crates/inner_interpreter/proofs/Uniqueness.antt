-- A run has one end.
use Rattle.std.proofs.Common.{◌≡◌, ◌+◌, ◌-◌, ℕ, zero, suc, Some, refl, sym, ap, inl, inr, arith}
use Rattle.std.proofs.lemmas.Bool.{cases_lt}
use Rattle.inner_interpreter.specs.declared.stop.Stop.{Stop}
use Rattle.inner_interpreter.specs.Runs.{World, rounds, stops, next_by}

next_stays : (n : ℕ) (w : World) (s : Stop) → stops (rounds n w) ≡ Some s → rounds (suc n) w ≡ rounds n w
unfolding rounds
next_stays n w s h = ap (next_by (rounds n w)) h

pub stays : (k n m : ℕ) (w : World) (s : Stop) → m ≡ n + k → stops (rounds n w) ≡ Some s → rounds m w ≡ rounds n w
stays zero n m w s e h = let same : m ≡ n = omega arith in ap (λ i. rounds i w) same
stays (suc k) n m w s e h = grind (arith, next_stays, stays k n (n + k) w s refl h)

-- two ends of one run are the same
pub one_end_law : (w : World) (n m : ℕ) (s t : Stop) → stops (rounds n w) ≡ Some s → stops (rounds m w) ≡ Some t → rounds n w ≡ rounds m w
one_end_law w n m s t h k = elim (cases_lt n m) [
  | inl lt ↦ sym (stays (m - n) n m w s (omega arith) h)
  | inr le ↦ stays (n - m) m n w t (omega arith) k
]
