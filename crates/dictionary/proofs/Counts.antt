use Rattle.std.proofs.Common.{◌≡◌, ◌≢◌, ℕ, ◌+◌, ◌-◌, ◌<◌, ◌≤◌, List, length, length-append, arith}
use Rattle.cells.specs.Cell.{wrap}
use Rattle.memory.specs.Bytes.{cell}
use Rattle.dictionary.specs.Chain.{chain}
use Rattle.dictionary.specs.Order.{records, members, members_of, all_members, reached}

pub length_at_end : (m : List ℕ) (n l : ℕ) → l ≡ 0 → length (chain m n l) ≡ 0
unfolding chain
length_at_end m n l h = grind arith

pub length_none : (m : List ℕ) (n l : ℕ) → n ≤ 0 → length (chain m n l) ≡ 0
unfolding chain
length_none m n l h = grind arith

pub length_more : (m : List ℕ) (n l : ℕ) → 0 < n → l ≢ 0 → length (chain m n l) ≡ 1 + length (chain m (n - 1) (cell m l))
unfolding chain
length_more m n l h k = grind arith

pub ruleset lengths = (length_at_end, length_none, length_more)

pub length_of : (m : List ℕ) (r : ℕ) → length (members_of m r) ≡ length (members m r) + length (members m (wrap (r + 2))) + length (members m (wrap (r + 4))) + length (members m (wrap (r + 6)))
unfolding members_of
length_of m r = grind (arith, length-append {A = ℕ})

pub reached_at_end : (m : List ℕ) (n r : ℕ) → r ≡ 0 → reached m n r ≡ 0
unfolding reached all_members records
reached_at_end m n r h = grind arith

pub reached_none : (m : List ℕ) (n r : ℕ) → n ≤ 0 → reached m n r ≡ 0
unfolding reached all_members records
reached_none m n r h = grind arith

pub reached_more : (m : List ℕ) (n r : ℕ) → 0 < n → r ≢ 0 → reached m n r ≡ 1 + length (members_of m r) + reached m (n - 1) (cell m (wrap (r + 8)))
unfolding reached all_members records
reached_more m n r h k = grind (arith, length-append)

pub ruleset counts = (reached_at_end, reached_none, reached_more)
