-- Room for names, and for what is counted.
use Rattle.std.proofs.Common.{◌≡◌, ◌<◌, ◌≤◌, ◌+◌, ◌-◌, ℕ, List, length, drop, zero, suc, [], ◌∷◌, Bool, true, if◌then◌else◌, ◌==◌, arith}
use Rattle.std.specs.List.{sum}
use Rattle.std.specs.Prelude.{find, Option, Some, ◌⊎◌}
use Rattle.std.proofs.lemmas.Nat.{and_le_r}
use Rattle.std.proofs.lemmas.Slice.Eq.{bytes_eq-Decides}
use Rattle.cells.specs.Cell.{wrap}
use Rattle.memory.proofs.Ranges.{length-bytes}
use Rattle.dictionary.specs.Header.{name_length, count_byte, name_of, is_named}
use Rattle.dictionary.specs.Order.{headers}
use Rattle.dictionary.specs.Extents.{extent_end}
use Rattle.see.specs.Extent.{extent}
use Rattle.dictionary.specs.Chain.{chain, is_longer}
use Rattle.dictionary.specs.Search.{Sought, Found, comes_to, walked, first_in, first_from, or_else, sought_from, sought}
use Rattle.std.specs.Prelude.{slice_index, slice_set, replicate}
use Rattle.std.proofs.lemmas.List.Sums.{sum_by-set, sum_by-take-drop, sum_by-cons}
use Rattle.std.proofs.lemmas.List.Folds.{sum_by-replicate}

-- a name has at most 31 bytes
pub short_name : (m : List ℕ) (l : ℕ) → name_length m l ≤ 31
unfolding name_length
short_name m l = and_le_r (count_byte m l) 31

-- what is found passes
passes : {X : Type 0} (p : X → Bool) (xs : List X) (x : X) → find p xs ≡ Some x → p x ≡ true
passes p [] x e = cc
passes p (y ∷ xs) x e = grind (arith, passes p xs x)

found_passes : (test : ℕ → Bool) (o : Option ℕ) (b : Bool) (l : ℕ) → comes_to o b ≡ Found l → o ≡ Some l
found_passes test o b l e = grind arith

walked_passes : (test : ℕ → Bool) (m : List ℕ) (n k l : ℕ) → walked test m n k ≡ Found l → test l ≡ true
unfolding walked
walked_passes test m n k l e = passes test (chain m n k) l (found_passes test (find test (chain m n k)) (is_longer m n k) l e)

either_passes : (a b : Sought) (l : ℕ) → or_else a b ≡ Found l → (a ≡ Found l) ⊎ (b ≡ Found l)
either_passes a b l e = grind arith

found_named : (m name : List ℕ) (l : ℕ) → sought m name ≡ Found l → is_named m name l ≡ true
unfolding sought sought_from first_from first_in
found_named m name l e = grind (arith, either_passes, walked_passes)

pub found_short : (m name : List ℕ) (l : ℕ) → length m ≡ 65536 → sought m name ≡ Found l → length name ≤ 31
unfolding is_named name_of
found_short m name l h e =
    let n = found_named m name l e in
    grind (arith, bytes_eq-Decides, length-bytes m (wrap (l + 3)) (name_length m l) h, short_name m l)

-- what is at a place has as many bytes as there are up to its end
pub extent_length : (m : List ℕ) (p : ℕ) → length m ≡ 65536 → extent_end m (headers m) p - p ≤ 65536 → length (extent m p) ≡ extent_end m (headers m) p - p
unfolding extent
extent_length m p h k = length-bytes m p (extent_end m (headers m) p - p) h k

-- one more at one place
pub sum_counted : (xs : List ℕ) (i v : ℕ) → i < length xs → v ≤ slice_index xs i + 1 → sum (slice_set xs i v) ≤ sum xs + 1
sum_counted xs i v lt le = omega (arith, sum_by-set (λ x. x) xs i v 0 lt, le)

-- nothing at any place
pub sum_none : (n : ℕ) → sum (replicate n 0) ≡ 0
sum_none n = omega (arith, sum_by-replicate (λ x. x) n 0)

-- those at the first place, and those after it
first_is : (n v k : ℕ) → k ≡ (if n == 0 then 0 else v) → k ≤ v
first_is n v k e = grind arith

pub sum_behind : (xs : List ℕ) (n k : ℕ) → k ≡ (if n == 0 then 0 else slice_index xs 0) → k + sum (drop n xs) ≤ sum xs
sum_behind xs zero k e = omega (arith, e)
sum_behind [] (suc n) k e = omega (arith, first_is (suc n) (slice_index [] 0) k e)
sum_behind (x ∷ xs) (suc n) k e = omega (arith, first_is (suc n) x k e, sum_by-take-drop (λ v. v) xs n, sum_by-cons (λ v. v) x xs)
