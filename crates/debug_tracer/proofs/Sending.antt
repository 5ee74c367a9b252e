-- Lines that are sent in several pieces.
use Rattle.std.proofs.Common.{◌≡◌, ℕ, zero, suc, ◌+◌, List, [], ◌∷◌, ◌++◌, Option, Some, refl, sym, ap, ◌∙◌, arith, append_assoc, append-nil}
use Rattle.std.specs.Prelude.{take, drop, slice_get}
use Rattle.std.specs.List.{flat_map}
use Rattle.std.specs.Io.KnownBytes.{Appends}
use Rattle.inner_interpreter.specs.Sent.{AppendsPart}
use Rattle.inner_interpreter.proofs.Sending.{appends_both, part_first, part_second}

-- the texts of some cells, of which the first i were sent
cut_at : (f : ℕ → List ℕ) (i : ℕ) (xs : List ℕ) (x : ℕ) → slice_get xs i ≡ Some x → flat_map f (take (suc i) xs) ≡ flat_map f (take i xs) ++ f x
cut_at f i [] x h = cc
cut_at f zero (y ∷ ys) x h = let same : y ≡ x = cc in rw same (append-nil (f x))
cut_at f (suc i) (y ∷ ys) x h = ap (λ bs. f y ++ bs) (cut_at f i ys x h) ∙ sym (append_assoc (f y) (flat_map f (take i ys)) (f x))

rest_at : (f : ℕ → List ℕ) (i : ℕ) (xs : List ℕ) (x : ℕ) → slice_get xs i ≡ Some x → flat_map f xs ≡ flat_map f (take i xs) ++ (f x ++ flat_map f (drop (suc i) xs))
rest_at f i [] x h = cc
rest_at f zero (y ∷ ys) x h = let same : y ≡ x = cc in rw same refl
rest_at f (suc i) (y ∷ ys) x h = ap (λ bs. f y ++ bs) (rest_at f i ys x h) ∙ sym (append_assoc (f y) (flat_map f (take i ys)) (f x ++ flat_map f (drop (suc i) ys)))

pub sent_more : (f : ℕ → List ℕ) (i : ℕ) (xs : List ℕ) (x : ℕ) (a b c : Option (List ℕ)) → slice_get xs i ≡ Some x → Appends a b (flat_map f (take i xs)) → Appends b c (f x) → Appends a c (flat_map f (take (i + 1) xs))
sent_more f i xs x a b c h k l = let next : i + 1 ≡ suc i = omega arith in rw (next, cut_at f i xs x h) (appends_both a b c (flat_map f (take i xs)) (f x) k l)

pub sent_cut : (f : ℕ → List ℕ) (i : ℕ) (xs : List ℕ) (x : ℕ) (a b c : Option (List ℕ)) → slice_get xs i ≡ Some x → Appends a b (flat_map f (take i xs)) → AppendsPart b c (f x) → AppendsPart a c (flat_map f xs)
sent_cut f i xs x a b c h k l = rw (rest_at f i xs x h) (part_second a b c (flat_map f (take i xs)) (f x ++ flat_map f (drop (suc i) xs)) k (part_first b c (f x) (flat_map f (drop (suc i) xs)) l))
