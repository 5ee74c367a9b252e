-- The names of a chain, as many as are left of it.
use Rattle.std.proofs.Common.{◌≡◌, ◌≢◌, ◌≤◌, ◌<◌, ◌-◌, ◌++◌, ◌∙◌, ℕ, List, [], arith, ap, sym, append_assoc, append-nil}
use Rattle.std.specs.List.{flat_map}
use Rattle.memory.specs.Bytes.{cell}
use Rattle.dictionary.specs.Chain.{chain}
use Rattle.forth_names.specs.Names.{listed_name}

ended : (m : List ℕ) (n l : ℕ) → l ≡ 0 → flat_map (listed_name m) (chain m n l) ≡ []
unfolding chain
ended m n l h = grind arith

cut : (m : List ℕ) (n l : ℕ) → n ≤ 0 → flat_map (listed_name m) (chain m n l) ≡ []
unfolding chain
cut m n l h = grind arith

more : (m : List ℕ) (n l : ℕ) → 0 < n → l ≢ 0
    → flat_map (listed_name m) (chain m n l) ≡ listed_name m l ++ flat_map (listed_name m) (chain m (n - 1) (cell m l))
unfolding chain
more m n l h k = grind arith

-- one name more
pub onward : (m : List ℕ) (n l : ℕ) (names longer whole : List ℕ) → 0 < n → l ≢ 0 → longer ≡ names ++ listed_name m l
    → names ++ flat_map (listed_name m) (chain m n l) ≡ whole → longer ++ flat_map (listed_name m) (chain m (n - 1) (cell m l)) ≡ whole
onward m n l names longer whole h k is so =
    ap (λ x. x ++ flat_map (listed_name m) (chain m (n - 1) (cell m l))) is ∙ append_assoc names (listed_name m l) _ ∙ ap (λ x. names ++ x) (sym (more m n l h k)) ∙ so

-- all of them
pub whole_at_end : (m : List ℕ) (n l : ℕ) (names whole : List ℕ) → l ≡ 0 → names ++ flat_map (listed_name m) (chain m n l) ≡ whole → names ≡ whole
whole_at_end m n l names whole h so = sym (ap (λ x. names ++ x) (ended m n l h) ∙ append-nil names) ∙ so

pub whole_at_cut : (m : List ℕ) (n l : ℕ) (names whole : List ℕ) → n ≤ 0 → names ++ flat_map (listed_name m) (chain m n l) ≡ whole → names ≡ whole
whole_at_cut m n l names whole h so = sym (ap (λ x. names ++ x) (cut m n l h) ∙ append-nil names) ∙ so
