-- No member of a chain is at 0, so nothing is hidden there.
use Rattle.std.proofs.Common.{◌≡◌, ℕ, zero, suc, List, [], ◌∷◌, Bool, false, ◌==◌, if◌then◌else◌, refl, arith, sym}
use Rattle.std.specs.Prelude.{find}
use Rattle.memory.specs.Bytes.{cell}
use Rattle.dictionary.specs.Header.{is_named, is_named_but}
use Rattle.dictionary.specs.Chain.{chain}
use Rattle.dictionary.specs.Search.{walked, first_in, first_from, sought_in, sought_from}

but_none : (m name : List ℕ) (l : ℕ) → (l == 0) ≡ false → is_named_but m name 0 l ≡ is_named m name l
unfolding is_named_but
but_none m name l h = grind (arith, h)

find_step : (m name : List ℕ) (l : ℕ) (xs : List ℕ) (b : Bool) → (l == 0) ≡ b → find (is_named_but m name 0) xs ≡ find (is_named m name) xs
    → find (is_named_but m name 0) (if b then [] else l ∷ xs) ≡ find (is_named m name) (if b then [] else l ∷ xs)
find_step m name l xs b e r = grind (arith, but_none)

find_but_none : (m name : List ℕ) (n l : ℕ) → find (is_named_but m name 0) (chain m n l) ≡ find (is_named m name) (chain m n l)
unfolding chain
find_but_none m name zero l = refl
find_but_none m name (suc n) l = find_step m name l (chain m n (cell m l)) (l == 0) refl (find_but_none m name n (cell m l))

pub walked_but_none : (m name : List ℕ) (n l : ℕ) → walked (is_named_but m name 0) m n l ≡ walked (is_named m name) m n l
unfolding walked
walked_but_none m name n l = rw (find_but_none m name n l) refl

pub in_hiding_none : (m name : List ℕ) (voc : ℕ) → sought_in m voc name ≡ first_in (is_named_but m name 0) m voc name
unfolding sought_in first_in
in_hiding_none m name voc = sym (walked_but_none m name 32768 _)

pub from_hiding_none : (m name : List ℕ) (voc : ℕ) → sought_from m voc name ≡ first_from (is_named_but m name 0) m voc name
unfolding sought_from first_from first_in
from_hiding_none m name voc = sym (simp walked_but_none)

pub chain_hiding_none : (m name : List ℕ) (n l : ℕ) → walked (is_named m name) m n l ≡ walked (is_named_but m name 0) m n l
chain_hiding_none m name n l = sym (walked_but_none m name n l)

pub ruleset hiding_none = (in_hiding_none, from_hiding_none, chain_hiding_none)
