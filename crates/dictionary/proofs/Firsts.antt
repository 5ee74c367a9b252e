use Rattle.std.proofs.Common.{◌≡◌, ℕ, zero, suc, ◌<◌, ◌≤◌, List, [], ◌∷◌, length, Bool, true, false, refl, arith, sym, ◌∙◌, ap, ◌==◌, if◌then◌else◌, Option, Some}
use Rattle.std.specs.Prelude.{All, Contains, find, IsTrue, IsFalse}
use Rattle.std.proofs.lemmas.List.Elements.{All-nil, All-cons, All-head, All-tail}
use Rattle.memory.specs.Bytes.{cell}
use Rattle.dictionary.specs.Header.{is_named}
use Rattle.dictionary.specs.Chain.{chain, is_longer, IsNewest}
use Rattle.dictionary.specs.Search.{Found, comes_to, head_of, walked, first_in, or_else, first_from, sought_in, sought_from, chain_in, searched_in, goes_on_in}

newest_here : (p : ℕ → Bool) (x : ℕ) (xs : List ℕ) → p x ≡ true → IsNewest p (x ∷ xs) x
newest_here p x xs h = record { newer = []; older = xs; stands = refl; passes = h; none_newer = All-nil (λ (k : ℕ). IsFalse (p k)) }

newest_later : (p : ℕ → Bool) (x l : ℕ) (xs : List ℕ) → p x ≡ false → IsNewest p xs l → IsNewest p (x ∷ xs) l
newest_later p x l xs h w = record {
  newer = x ∷ w.newer;
  older = w.older;
  stands = ap (λ (ys : List ℕ). x ∷ ys) w.stands;
  passes = w.passes;
  none_newer = All-cons (λ (k : ℕ). IsFalse (p k)) x w.newer h w.none_newer;
}

Contains-later : (p : ℕ → Bool) (x k : ℕ) (xs : List ℕ) → p x ≡ false → p k ≡ true → Contains (x ∷ xs) k → Contains xs k
Contains-later p x k xs h q x6 = grind arith

-- the first of a list that passes is the newest, if one passes at all
abbrev pub HasNewest : (ℕ → Bool) → List ℕ → Type 0
HasNewest p xs = (l : ℕ) × (find p xs ≡ Some l) × IsNewest p xs l

newest_step : (p : ℕ → Bool) (x k : ℕ) (xs : List ℕ) (b : Bool) → p x ≡ b → (Contains xs k → HasNewest p xs) → Contains (x ∷ xs) k → p k ≡ true
    → HasNewest p (x ∷ xs)
newest_step p x k xs true e r c q = (x, rw e refl, newest_here p x xs e)
newest_step p x k xs false e r c q = let h = r (Contains-later p x k xs e q c) in (h.0, rw e h.1, newest_later p x h.0 xs e h.2)

pub newest_first : (p : ℕ → Bool) (xs : List ℕ) (k : ℕ) → Contains xs k → p k ≡ true → HasNewest p xs
newest_first p [] k (j, lt, at) q = absurd (omega arith)
newest_first p (x ∷ xs) k c q = newest_step p x k xs (p x) refl (λ (d : Contains xs k). newest_first p xs k d q) c q

-- if none passes there is no first
pub none_first : (p : ℕ → Bool) (xs : List ℕ) → All (λ k. IsFalse (p k)) xs → find p xs ≡ (find p [])
none_first p [] h = refl
none_first p (x ∷ xs) h = rw (All-head (λ (k : ℕ). IsFalse (p k)) x xs h) (none_first p xs (All-tail (λ (k : ℕ). IsFalse (p k)) x xs h))

-- tests that agree on a list have the same first
pub same_first : (p q : ℕ → Bool) (xs : List ℕ) → All (λ k. p k ≡ q k) xs → find p xs ≡ find q xs
same_first p q [] h = refl
same_first p q (x ∷ xs) h =
    rw (All-head (λ (k : ℕ). p k ≡ q k) x xs h) (rw (same_first p q xs (All-tail (λ (k : ℕ). p k ≡ q k) x xs h)) refl)

-- a chain of at most n members isn't cut after them
cut_step : (n l : ℕ) (xs ys : List ℕ) (b : Bool) → (length xs ≤ n → xs ≡ ys) → length (if b then [] else l ∷ xs) ≤ suc n
    → (if b then [] else l ∷ xs) ≡ (if b then [] else l ∷ ys)
cut_step n l xs ys b r h = grind arith

one_step : (l : ℕ) (b : Bool) → length (if b then [] else l ∷ []) ≤ 0 → (if b then [] else l ∷ []) ≡ []
one_step l b h = grind arith

pub chain_cut : (m : List ℕ) (n l : ℕ) → length (chain m (suc n) l) ≤ n → chain m (suc n) l ≡ chain m n l
unfolding chain
chain_cut m zero l h = one_step l (l == 0) h
chain_cut m (suc n) l h = cut_step n l (chain m (suc n) (cell m l)) (chain m n (cell m l)) (l == 0) (chain_cut m n (cell m l)) h

not_longer : (m : List ℕ) (n l : ℕ) → length (chain m (suc n) l) ≤ n → is_longer m n l ≡ false
unfolding is_longer
not_longer m n l h = grind arith

walked_whole : (p : ℕ → Bool) (m : List ℕ) (n l : ℕ) → length (chain m (suc n) l) ≤ n → walked p m n l ≡ comes_to (find p (chain m (suc n) l)) false
unfolding walked
walked_whole p m n l h = rw (not_longer m n l h, chain_cut m n l h) refl

in_whole : (p : ℕ → Bool) (m name : List ℕ) (voc : ℕ) → length (chain_in m voc name) ≤ 32768
    → first_in p m voc name ≡ comes_to (find p (chain_in m voc name)) false
unfolding first_in chain_in
in_whole p m name voc h = walked_whole p m 32768 (cell m (head_of voc name)) h

pub from_in : (m name : List ℕ) (voc : ℕ) → 0 < length name → sought_from m voc name ≡ or_else (sought_in m voc name) (sought_in m 42 name)
unfolding sought_from sought_in first_from
from_in m name voc h = let z : (length name == 0) ≡ false = grind arith in rw z refl

sought_whole : (m name : List ℕ) (voc : ℕ) (o : Option ℕ) → length (chain_in m voc name) ≤ 32768 → find (is_named m name) (chain_in m voc name) ≡ o
    → sought_in m voc name ≡ comes_to o false
unfolding sought_in
sought_whole m name voc o h e = in_whole (is_named m name) m name voc h ∙ rw e refl

pub search_newest : (m name : List ℕ) (voc l : ℕ) → 0 < length name → length (chain_in m voc name) ≤ 32768
    → Contains (chain_in m voc name) l → IsTrue (is_named m name l)
    → (k : ℕ) × (sought_from m voc name ≡ Found k) × IsNewest (is_named m name) (chain_in m voc name) k
search_newest m name voc l h n c q =
    let w : HasNewest (is_named m name) (chain_in m voc name) = newest_first (is_named m name) (chain_in m voc name) l c q in
    (w.0, from_in m name voc h ∙ rw (sought_whole m name voc (Some w.0) n w.1) refl, w.2)

pub search_forth : (m name : List ℕ) (voc : ℕ) → 0 < length name → length (chain_in m voc name) ≤ 32768
    → All (λ l. IsFalse (is_named m name l)) (chain_in m voc name) → sought_from m voc name ≡ sought_in m 42 name
search_forth m name voc h n none = grind (arith, from_in, sought_whole, none_first)

-- two memories
found_same : (m n name : List ℕ) (voc : ℕ) → searched_in m voc name ≡ searched_in n voc name
    → All (λ k. is_named m name k ≡ is_named n name k) (searched_in m voc name)
    → find (is_named m name) (searched_in m voc name) ≡ find (is_named n name) (searched_in n voc name)
found_same m n name voc e h = same_first (is_named m name) (is_named n name) (searched_in m voc name) h ∙ ap (λ ls. find (is_named n name) ls) e

sought_is : (m name : List ℕ) (voc : ℕ) → sought_in m voc name ≡ comes_to (find (is_named m name) (searched_in m voc name)) (goes_on_in m voc name)
unfolding sought_in first_in walked searched_in goes_on_in
sought_is m name voc = refl

found_is : (o : Option ℕ) (longer : Bool) (l : ℕ) → comes_to o longer ≡ Found l → o ≡ Some l
found_is o longer l h = grind arith

pub walk_found : (m n name : List ℕ) (voc l : ℕ) → searched_in m voc name ≡ searched_in n voc name
    → All (λ k. is_named m name k ≡ is_named n name k) (searched_in m voc name) → sought_in m voc name ≡ Found l → sought_in n voc name ≡ Found l
walk_found m n name voc l e h q = grind (arith, found_is, sought_is, found_same)

pub walk_same : (m n name : List ℕ) (voc : ℕ) → searched_in m voc name ≡ searched_in n voc name
    → All (λ k. is_named m name k ≡ is_named n name k) (searched_in m voc name) → goes_on_in m voc name ≡ goes_on_in n voc name
    → sought_in m voc name ≡ sought_in n voc name
walk_same m n name voc e h g = sought_is m name voc ∙ rw (found_same m n name voc e h, g) (sym (sought_is n name voc))
