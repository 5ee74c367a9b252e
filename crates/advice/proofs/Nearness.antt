-- Texts without the letters at their beginning that are the same.
use Rattle.std.proofs.Common.{◌≡◌, ℕ, ◌+◌, ◌<◌, ◌≤◌, Bool, true, false, ◌&&◌, nat_le, List, ◌∷◌, length, drop, slice_index, refl, eq-eqb, arith}
use Rattle.std.proofs.lemmas.List.{drop_more}
use Rattle.advice.specs.Near.{differs_once, is_near}

same_head : (a b : ℕ) (one other : List ℕ) → a ≡ b → differs_once (a ∷ one) (b ∷ other) ≡ differs_once one other
unfolding differs_once
same_head a b one other q = rw (eq-eqb a b q) refl

-- one letter more is the same
pub same_more : (i : ℕ) (one other : List ℕ) → i < length one → i < length other → slice_index one i ≡ slice_index other i →
    differs_once (drop i one) (drop i other) ≡ differs_once (drop (i + 1) one) (drop (i + 1) other)
same_more i one other h k q = rw (drop_more one i 0 h) (rw (drop_more other i 0 k) (same_head _ _ _ _ q))

-- what is known of the rest is known of the whole
pub whole : (one other : List ℕ) (s : ℕ) (r : Bool) → 3 ≤ length one → 3 ≤ length other →
    differs_once one other ≡ differs_once (drop s one) (drop s other) → r ≡ differs_once (drop s one) (drop s other) → r ≡ is_near one other
whole one other s r h k q e = grind (arith)
