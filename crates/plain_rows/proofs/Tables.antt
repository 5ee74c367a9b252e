-- What holds of each row of a table holds of the row of any number.
use Rattle.std.proofs.Common.{◌≡◌, ◌≢◌, ◌∙◌, ℕ, zero, suc, ◌+◌, ◌<◌, ◌≤◌, ◌==◌, List, [], ◌∷◌, take, drop, length, Bool, true, false, refl, subst, sym, arith, if◌then◌else◌}
use Rattle.std.proofs.lemmas.Bool.{eqb-true, eqb-false}
use Rattle.machine_parts.specs.Whole.{Whole}
use Rattle.machine_parts.specs.Row.{After, fault}
use Rattle.plain_rows.specs.Table.{row_in}
use Rattle.machine_parts.specs.declared.faults.TheConstants.{UNKNOWN_CODE}

-- P of each row, with its number
unfoldable pub Each : (ℕ → After → Type 0) → List (ℕ × (Whole → After)) → Whole → Type 0
Each P [] s = Unit {0}
Each P (e ∷ rest) s = P e.0 (e.1 s) × Each P rest s

pub by_rows : (P : ℕ → After → Type 0) (rows : List (ℕ × (Whole → After))) (n : ℕ) (s : Whole) → Each P rows s → ((k : ℕ) → P k (fault s 6)) → P n (row_in rows n s)
unfolding row_in Each
by_rows P [] n s h k = k n
by_rows P (e ∷ rest) n s h k = by_number (n == e.0) refl (by_rows P rest n s h.1 k) where
  by_number : (b : Bool) → (n == e.0) ≡ b → P n (row_in rest n s) → P n (if b then e.1 s else row_in rest n s)
  by_number true q more = subst (λ i. P i (e.1 s)) (sym (eqb-true n e.0 q)) h.0
  by_number false q more = more

-- a long table in two parts
pub of_parts : (P : ℕ → After → Type 0) (n : ℕ) (rows : List (ℕ × (Whole → After))) (s : Whole) → Each P (take n rows) s → Each P (drop n rows) s → Each P rows s
unfolding Each
of_parts P zero rows s h k = k
of_parts P (suc n) [] s h k = tt
of_parts P (suc n) (e ∷ rest) s h k = (h.0, of_parts P n rest s h.1 k)

-- the numbers of a table are n and those after it, one after the other
unfoldable pub AreFrom : ℕ → List (ℕ × (Whole → After)) → Type 0
AreFrom n [] = Unit {0}
AreFrom n (e ∷ rest) = (e.0 ≡ n) × AreFrom (suc n) rest

-- such a table lacks the numbers before n, and those after its end
pub lacks_before : (n k : ℕ) (rows : List (ℕ × (Whole → After))) (s : Whole) → AreFrom n rows → k < n → row_in rows k s ≡ fault s UNKNOWN_CODE
unfolding AreFrom row_in
lacks_before n k [] s h l = refl
lacks_before n k (e ∷ rest) s h l = by_number (k == e.0) refl (lacks_before (suc n) k rest s h.1 (omega (arith, l))) where
  by_number : (b : Bool) → (k == e.0) ≡ b → row_in rest k s ≡ fault s UNKNOWN_CODE → (if b then e.1 s else row_in rest k s) ≡ fault s UNKNOWN_CODE
  by_number true q more = absurd (omega (arith, l, eqb-true k e.0 q, h.0))
  by_number false q more = more

pub lacks_behind : (n k : ℕ) (rows : List (ℕ × (Whole → After))) (s : Whole) → AreFrom n rows → n + length rows ≤ k → row_in rows k s ≡ fault s UNKNOWN_CODE
unfolding AreFrom row_in
lacks_behind n k [] s h l = refl
lacks_behind n k (e ∷ rest) s h l = by_number (k == e.0) refl (lacks_behind (suc n) k rest s h.1 (omega (arith, l))) where
  by_number : (b : Bool) → (k == e.0) ≡ b → row_in rest k s ≡ fault s UNKNOWN_CODE → (if b then e.1 s else row_in rest k s) ≡ fault s UNKNOWN_CODE
  by_number true q more = absurd (omega (arith, l, eqb-true k e.0 q, h.0))
  by_number false q more = more

-- and has each number between
pub has_between : (P : ℕ → After → Type 0) (n k : ℕ) (rows : List (ℕ × (Whole → After))) (s : Whole) → AreFrom n rows → Each P rows s → n ≤ k → k < n + length rows → P k (row_in rows k s)
unfolding AreFrom row_in Each
has_between P n k [] s h all low high = absurd (omega (arith, low, high))
has_between P n k (e ∷ rest) s h all low high = by_number (k == e.0) refl (λ off. has_between P (suc n) k rest s h.1 all.1 (omega (arith, low, off)) (omega (arith, high))) where
  by_number : (b : Bool) → (k == e.0) ≡ b → (k ≢ n → P k (row_in rest k s)) → P k (if b then e.1 s else row_in rest k s)
  by_number true q more = subst (λ i. P i (e.1 s)) (sym (eqb-true k e.0 q)) all.0
  by_number false q more = more (λ same. eqb-false k e.0 q (same ∙ sym h.0))
