-- Ranges of memory in two pieces.
use Rattle.std.proofs.Common.{◌≡◌, ℕ, ◌+◌, ◌-◌, ◌≤◌, ◌<◌, List, [], ◌∷◌, ◌++◌, length, take, min, arith, ap, sym, ◌∙◌}
use Rattle.std.proofs.lemmas.List.{append-nil, take_all, take-append-le}
use Rattle.std.proofs.lemmas.Bool.{cases_lt}
use Rattle.std.proofs.Math.Seq.{take-append-add}

-- if the second piece is empty, the first is all
pub all_in_front : (xs ys : List ℕ) → length ys ≡ 0 → xs ++ ys ≡ xs
all_in_front xs [] h = append-nil xs
all_in_front xs (y ∷ ys) h = absurd (omega arith)

-- the first n of both are the first of the one, and of the other as many as are left
first_in_one : (n : ℕ) (xs ys : List ℕ) → n < length xs → take n (xs ++ ys) ≡ take n xs ++ take 0 ys
first_in_one n xs ys h = take-append-le n xs ys (omega (arith, h)) ∙ sym (append-nil (take n xs))

first_in_both : (n : ℕ) (xs ys : List ℕ) → length xs ≤ n → take n (xs ++ ys) ≡ xs ++ take (n - length xs) ys
first_in_both n xs ys h =
    let e : n ≡ length xs + (n - length xs) = omega (arith, h) in
    ap (λ k. take k (xs ++ ys)) e ∙ take-append-add xs ys (n - length xs)

few_of : (k : ℕ) (ys : List ℕ) → take (min (length ys) k) ys ≡ take k ys
few_of k ys = grind (arith, cases_lt, take_all)

pub first_joined : (n : ℕ) (xs ys : List ℕ) → take n (xs ++ ys) ≡ take (min (length xs) n) xs ++ take (min (length ys) (n - min (length xs) n)) ys
first_joined n xs ys = grind (arith, cases_lt, few_of, first_in_one, take_all, first_in_both)
