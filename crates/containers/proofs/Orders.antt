use Rattle.std.proofs.Common.{◌≡◌, ◌≢◌, ◌∙◌, ℕ, zero, suc, ◌+◌, ◌*◌, ◌/◌, ◌%◌, ◌<◌, ◌≤◌, ◌==◌, List, [], ◌∷◌, length, get_or, drop, Bool, true, false, not, ◌||◌, nat_lt, arith, refl, ap, sym}
use Rattle.std.specs.List.{list_all, list_any}
use Rattle.std.proofs.lemmas.Bool.{and_parts, ltb-true, leb-true, eqb-false}
use Rattle.std.proofs.lemmas.Nat.{mul-add-lt, same_from_place, div_below, mod_below, div-add-mod'}
use Rattle.std.proofs.lemmas.List.{at_drop_more, at_drop_all}
use Rattle.containers.specs.Layouts.{distinct, is_order, physical}

-- the tests of an order
pub record Tests (order : List ℕ) : Type 0 where
  pub some : 0 < length order
  pub few : length order ≤ 1024
  pub below : list_all (λ place. nat_lt place (length order)) order ≡ true
  pub once : distinct order ≡ true

pub tests_of : (order : List ℕ) → is_order order ≡ true → Tests order
unfolding is_order
tests_of order e = grind (arith, and_parts, ltb-true, leb-true)

pub order_some : (order : List ℕ) → is_order order ≡ true → (0 < length order) × (length order ≤ 1024)
order_some order e = let t = tests_of order e in (t.some, t.few)

all_at : (n k : ℕ) (xs : List ℕ) → list_all (λ x. nat_lt x n) xs ≡ true → k < length xs → get_or xs k 0 < n
all_at n k [] e h = absurd (omega arith)
all_at n zero (x ∷ xs) e h = ltb-true x n (and_parts (nat_lt x n) (list_all (λ y. nat_lt y n) xs) e).0
all_at n (suc k) (x ∷ xs) e h = all_at n k xs (and_parts (nat_lt x n) (list_all (λ y. nat_lt y n) xs) e).1 (omega arith)

-- each place is on the track
pub order_below : (order : List ℕ) (k : ℕ) → is_order order ≡ true → k < length order → get_or order k 0 < length order
order_below order k e h = all_at (length order) k order (tests_of order e).below h

or-none : (x y : Bool) → (x || y) ≡ false → (x ≡ false) × (y ≡ false)
or-none x y e = grind arith

not-there : (x : ℕ) (xs : List ℕ) (k : ℕ) → list_any (λ y. y == x) xs ≡ false → k < length xs → get_or xs k 0 ≢ x
not-there x (y ∷ xs) (suc k) e h = not-there x xs k (or-none (y == x) (list_any (λ z. z == x) xs) e).1 (omega arith)
not-there x xs k e h = grind (arith, eqb-false, or-none)

not-true-of : (b : Bool) → not b ≡ true → b ≡ false
not-true-of b e = grind arith

distinct-at : (xs : List ℕ) (i j : ℕ) → distinct xs ≡ true → i < length xs → j < length xs → get_or xs i 0 ≡ get_or xs j 0 → i ≡ j
unfolding distinct
distinct-at (x ∷ xs) (suc i) (suc j) e h k same =
    let t = and_parts (not (list_any (λ y. y == x) xs)) (distinct xs) e in
    ap suc (distinct-at xs i j t.1 (omega arith) (omega arith) same)
distinct-at xs i j e h k same = grind (arith, and_parts, not-there, not-true-of)

-- and no two are the same
pub order_one : (order : List ℕ) (i j : ℕ) → is_order order ≡ true → i < length order → j < length order → get_or order i 0 ≡ get_or order j 0 → i ≡ j
order_one order i j e h k same = distinct-at order i j (tests_of order e).once h k same

-- a sector of so many tracks is within them
pub physical_below : (order : List ℕ) (s t : ℕ) → is_order order ≡ true → s < t * length order → physical order s < length order * t
unfolding physical
physical_below order s t e h = grind (arith, tests_of, mul-add-lt, div_below, order_below, mod_below)

-- two sectors don't lie at one place
pub physical_one : (order : List ℕ) (s u : ℕ) → is_order order ≡ true → physical order s ≡ physical order u → s ≡ u
unfolding physical
physical_one order s u e same =
    let some : 0 < length order = (tests_of order e).some in
    let a : s % length order < length order = mod_below s (length order) some in
    let b : u % length order < length order = mod_below u (length order) some in
    let parts = same_from_place (s / length order) (get_or order (s % length order) 0) (u / length order) (get_or order (u % length order) 0) (length order)
    (order_below order (s % length order) e a) (order_below order (u % length order) e b) same in
    let r : s % length order ≡ u % length order = order_one order (s % length order) (u % length order) e a b parts.1 in
    sym (div-add-mod' s (length order)) ∙ ap (λ q. q * length order + s % length order) parts.0 ∙ ap (λ q. u / length order * length order + q) r ∙ div-add-mod' u (length order)

pub physical_small : (order : List ℕ) (s : ℕ) → is_order order ≡ true → physical order s < s + 1024
unfolding physical
physical_small order s e = grind (arith, tests_of, order_below, mod_below, div-add-mod')

-- `is_distinct`, a number on and at the end
pub distinct_more : (xs : List ℕ) (i : ℕ) → i < length xs → list_any (λ y. y == get_or xs i 0) (drop (i + 1) xs) ≡ false → distinct (drop i xs) ≡ distinct (drop (i + 1) xs)
unfolding distinct
distinct_more xs i h none = at_drop_more distinct xs i 0 h ∙ rw none refl

pub distinct_stops : (xs : List ℕ) (i : ℕ) → i < length xs → list_any (λ y. y == get_or xs i 0) (drop (i + 1) xs) ≡ true → distinct (drop i xs) ≡ false
unfolding distinct
distinct_stops xs i h some = at_drop_more distinct xs i 0 h ∙ rw some refl

pub distinct_end : (xs : List ℕ) (i : ℕ) → length xs ≤ i → distinct (drop i xs) ≡ true
unfolding distinct
distinct_end xs i h = at_drop_all distinct xs i h
