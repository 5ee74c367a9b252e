use Rattle.std.proofs.Common.{◌≡◌, ℕ, ◌<◌, ◌≤◌, List, arith, nat_lt}
use Rattle.std.specs.Prelude.{All, Contains}
use Rattle.dictionary.specs.Chain.{IsNewest}
use Rattle.dictionary.specs.Order.{members}
use Rattle.dictionary.specs.Forgetting.{first_below}
use Rattle.dictionary.proofs.Firsts.{newest_first, none_first}

pub newest_below : (m : List ℕ) (t head l : ℕ) → Contains (members m head) l → l < t
    → IsNewest (λ k. nat_lt k t) (members m head) (first_below t (members m head))
unfolding first_below
newest_below m t head l c h = let w = newest_first (λ (k : ℕ). nat_lt k t) (members m head) l c (grind arith) in rw w.1 w.2

pub none_below : (m : List ℕ) (t head : ℕ) → All (λ k. t ≤ k) (members m head) → first_below t (members m head) ≡ 0
unfolding first_below
none_below m t head h = grind (arith, none_first)
