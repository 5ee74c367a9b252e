use Rattle.std.proofs.Common.{◌≡◌, ◌≢◌, ℕ, ◌+◌, ◌-◌, ◌<◌, ◌≤◌, List, arith}
use Rattle.std.proofs.lemmas.Grind.{common_steps}
use Rattle.cells.specs.Cell.{wrap}
use Rattle.memory.specs.Bytes.{cell, put_cell, written}
use Rattle.memory.proofs.Kept.{written-append}
use Rattle.dictionary.specs.Chain.{chain}
use Rattle.dictionary.specs.Order.{records, members}
use Rattle.dictionary.specs.Forgetting.{first_below, cut_all, kept_record, cut_vocabulary, cuts}

pub below_at_end : (m : List ℕ) (t n l : ℕ) → l ≡ 0 → first_below t (chain m n l) ≡ 0
unfolding first_below chain
below_at_end m t n l h = grind arith

pub below_none : (m : List ℕ) (t n l : ℕ) → n ≤ 0 → first_below t (chain m n l) ≡ 0
unfolding first_below chain
below_none m t n l h = grind arith

pub below_here : (m : List ℕ) (t n l : ℕ) → 0 < n → l ≢ 0 → l < t → first_below t (chain m n l) ≡ l
unfolding first_below chain
below_here m t n l h k q = grind (arith, common_steps)

pub below_later : (m : List ℕ) (t n l : ℕ) → 0 < n → l ≢ 0 → t ≤ l → first_below t (chain m n l) ≡ first_below t (chain m (n - 1) (cell m l))
unfolding first_below chain
below_later m t n l h k q = grind (arith, common_steps)

pub ruleset members_below = (below_at_end, below_none, below_here, below_later)

pub records_at_end : (m : List ℕ) (t n l : ℕ) → l ≡ 0 → first_below t (records m n l) ≡ 0
unfolding first_below records
records_at_end m t n l h = grind arith

pub records_none : (m : List ℕ) (t n l : ℕ) → n ≤ 0 → first_below t (records m n l) ≡ 0
unfolding first_below records
records_none m t n l h = grind arith

pub records_here : (m : List ℕ) (t n l : ℕ) → 0 < n → l ≢ 0 → l < t → first_below t (records m n l) ≡ l
unfolding first_below records
records_here m t n l h k q = grind (arith, common_steps)

pub records_later : (m : List ℕ) (t n l : ℕ) → 0 < n → l ≢ 0 → t ≤ l → first_below t (records m n l) ≡ first_below t (records m (n - 1) (cell m (wrap (l + 8))))
unfolding first_below records
records_later m t n l h k q = grind (arith, common_steps)

pub ruleset records_below = (records_at_end, records_none, records_here, records_later)

pub cut_at_end : (m : List ℕ) (t n r : ℕ) (now : List ℕ) → r ≡ 0 → cut_all m t n r now ≡ now
unfolding cut_all records written
cut_at_end m t n r now h = grind arith

pub cut_none : (m : List ℕ) (t n r : ℕ) (now : List ℕ) → n ≤ 0 → cut_all m t n r now ≡ now
unfolding cut_all records written
cut_none m t n r now h = grind arith

pub cut_more : (m : List ℕ) (t n r : ℕ) (now : List ℕ) → 0 < n → r ≢ 0 → cut_all m t n r now ≡ cut_all m t (n - 1) (cell m (wrap (r + 8)))
    (put_cell (put_cell (put_cell (put_cell now r (first_below t (members m r))) (wrap (r + 2)) (first_below t (members m (wrap (r + 2)))))
    (wrap (r + 4)) (first_below t (members m (wrap (r + 4))))) (wrap (r + 6)) (first_below t (members m (wrap (r + 6)))))
unfolding cut_all records written
cut_more m t n r now h k = grind arith

pub ruleset cutting = (cut_at_end, cut_none, cut_more)

pub written_cuts : (m now : List ℕ) (t : ℕ) → written now (cuts m t) ≡
    put_cell (written (written (put_cell (cut_all m t 32769 (kept_record m t) (put_cell now 52 (kept_record m t))) 28 t)
    (cut_vocabulary m t 32)) (cut_vocabulary m t 34)) 30 0
unfolding cuts cut_all written
written_cuts m now t = simp written-append
