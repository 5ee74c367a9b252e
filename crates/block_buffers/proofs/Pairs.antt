-- A relation between each element of a list and each later one.
use Rattle.std.proofs.Common.{◌≡◌, suc, List, [], ◌∷◌, ◌++◌, map, arith, true, false, Bool, not, refl, get_or}
use Rattle.std.specs.Prelude.{filter, All, AllPairs}
use Rattle.std.proofs.lemmas.List.Elements.{All-nil, All-cons, All-map, All-filter, All-weaker}
use Rattle.std.proofs.lemmas.List.Kept.{AllPairs-cons, AllPairs-filter}
use Rattle.std.proofs.lemmas.Grind.{common_steps}

pub pairs_head : {X : Type 0} (R : X → X → Type 0) (x : X) (xs : List X) → AllPairs R (x ∷ xs) → All (R x) xs
pairs_head R x xs h = λ k d l. h 0 (suc k) d (omega arith) (omega arith)

pub pairs_tail : {X : Type 0} (R : X → X → Type 0) (x : X) (xs : List X) → AllPairs R (x ∷ xs) → AllPairs R xs
pairs_tail R x xs h = λ i j d l m. h (suc i) (suc j) d (omega arith) (omega arith)

pub pairs_map : {X : Type 0} (R : X → X → Type 0) (f : X → X) → ((x y : X) → R x y → R (f x) (f y)) → (xs : List X) → AllPairs R xs → AllPairs R (map f xs)
pairs_map R f keeps [] h = λ i j d l m. absurd (omega arith)
pairs_map R f keeps (x ∷ xs) h =
    AllPairs-cons R (f x) (map f xs)
    (All-map (R (f x)) f xs (All-weaker (R x) (λ y. R (f x) (f y)) (λ y r. keeps x y r) xs (pairs_head R x xs h)))
    (pairs_map R f keeps xs (pairs_tail R x xs h))

pub pairs_append : {X : Type 0} (R : X → X → Type 0) (xs ys : List X) → AllPairs R xs → AllPairs R ys → All (λ x. All (R x) ys) xs → AllPairs R (xs ++ ys)
pairs_append R xs ys h k across = grind (arith, common_steps, across, pairs_head, pairs_tail)

-- those elements that pass a test against those that don't, with one element more
across_more : {X : Type 0} (R : X → X → Type 0) → ((x y : X) → R x y → R y x) → (p : X → Bool) (x : X) (xs : List X) → All (R x) xs → All (λ z. All (R z) (filter (λ y. not (p y)) xs)) (filter p xs) → (b : Bool) → p x ≡ b → All (λ z. All (R z) (filter (λ y. not (p y)) (x ∷ xs))) (filter p (x ∷ xs))
across_more R turns p x xs h rest true e =
    rw e (All-cons (λ z. All (R z) (filter (λ y. not (p y)) xs)) x (filter p xs) (All-filter (λ y. not (p y)) (R x) xs h) rest)
across_more R turns p x xs h rest false e =
    rw e (λ k d l. All-cons (R (get_or (filter p xs) k d)) x (filter (λ y. not (p y)) xs) (turns x (get_or (filter p xs) k d) (All-filter p (R x) xs h k d l)) (rest k d l))

across : {X : Type 0} (R : X → X → Type 0) → ((x y : X) → R x y → R y x) → (p : X → Bool) (xs : List X) → AllPairs R xs → All (λ x. All (R x) (filter (λ y. not (p y)) xs)) (filter p xs)
across R turns p [] h = All-nil (λ x. All (R x) [])
across R turns p (x ∷ xs) h = across_more R turns p x xs (pairs_head R x xs h) (across R turns p xs (pairs_tail R x xs h)) (p x) refl

-- a relation that holds both ways is kept if those that pass come first
pub pairs_parted : {X : Type 0} (R : X → X → Type 0) → ((x y : X) → R x y → R y x) → (p : X → Bool) (xs : List X) → AllPairs R xs → AllPairs R (filter p xs ++ filter (λ y. not (p y)) xs)
pairs_parted R turns p xs h =
    pairs_append R (filter p xs) (filter (λ y. not (p y)) xs) (AllPairs-filter R p xs h) (AllPairs-filter R (λ y. not (p y)) xs h) (across R turns p xs h)
