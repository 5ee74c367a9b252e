-- Texts that come in two pieces.
use Rattle.std.proofs.Common.{◌≡◌, ℕ, ◌+◌, ◌-◌, ◌*◌, ◌%◌, ◌<◌, ◌&&◌, ◌++◌, List, [], ◌∷◌, length, take, slice_index, refl, arith, Bool, true, false, if◌then◌else◌, ◌∙◌, ap, sym}
use Rattle.std.proofs.lemmas.Grind.{common_steps}
use Rattle.std.proofs.lemmas.List.{length-append}
use Rattle.std.proofs.Math.Seq.{take-append-add}
use Rattle.std.proofs.lemmas.List.Folds.{list_all-append}
use Rattle.number_text.specs.Digits.{digit, is_digit, are_digits, continued}
use Rattle.number_text.specs.Numbers.{is_minus, has_dot, is_double, behind_minus, before_dot, digit_part}
use Rattle.number_text.proofs.Values.{continued-cons, continued_none}

pub minus_joined : (xs ys : List ℕ) → 0 < length xs → is_minus (xs ++ ys) ≡ is_minus xs
unfolding is_minus
minus_joined xs ys h = grind (arith, length-append, common_steps)

by_minus : (b : Bool) (x : ℕ) (xs ys : List ℕ) → (if b then xs ++ ys else x ∷ (xs ++ ys)) ≡ (if b then xs else x ∷ xs) ++ ys
by_minus b x xs ys = grind arith

behind_joined : (xs ys : List ℕ) → 0 < length xs → behind_minus (xs ++ ys) ≡ behind_minus xs ++ ys
behind_joined xs ys h = grind (arith, minus_joined, by_minus)

at_last : (x : ℕ) (zs : List ℕ) → 0 < length zs → slice_index (x ∷ zs) (length (x ∷ zs) - 1) ≡ slice_index zs (length zs - 1)
at_last x zs h = grind (arith, common_steps)

last_joined : (xs ys : List ℕ) → 0 < length ys → slice_index (xs ++ ys) (length (xs ++ ys) - 1) ≡ slice_index ys (length ys - 1)
last_joined [] ys h = refl
last_joined (x ∷ xs) ys h = grind (arith, length-append, at_last, last_joined xs ys h)

dot_joined : (xs ys : List ℕ) → 0 < length ys → has_dot (xs ++ ys) ≡ has_dot ys
unfolding has_dot
dot_joined xs ys h = let r = last_joined xs ys h in let l = length-append xs ys in grind (arith, r, l, h)

before_by : (b : Bool) (xs ys : List ℕ) → 0 < length ys → (if b then take (length (xs ++ ys) - 1) (xs ++ ys) else xs ++ ys) ≡ xs ++ (if b then take (length ys - 1) ys else ys)
before_by true xs ys h =
    let l : length (xs ++ ys) - 1 ≡ length xs + (length ys - 1) = let e = length-append xs ys in omega (arith, e, h) in
    ap (λ n. take n (xs ++ ys)) l ∙ take-append-add xs ys (length ys - 1)
before_by false xs ys h = refl

before_joined : (xs ys : List ℕ) → 0 < length ys → before_dot (xs ++ ys) ≡ xs ++ before_dot ys
before_joined xs ys h = rw (dot_joined xs ys h) (before_by (has_dot ys) xs ys h)

pub double_joined : (xs ys : List ℕ) → 0 < length xs → 0 < length ys → is_double (xs ++ ys) ≡ has_dot ys
unfolding is_double
double_joined xs ys h k = ap has_dot (behind_joined xs ys h) ∙ dot_joined (behind_minus xs) ys k

pub parts_joined : (xs ys : List ℕ) → 0 < length xs → 0 < length ys → digit_part (xs ++ ys) ≡ behind_minus xs ++ before_dot ys
parts_joined xs ys h k = ap before_dot (behind_joined xs ys h) ∙ before_joined (behind_minus xs) ys k

pub digits_joined : (base : ℕ) (xs ys : List ℕ) → are_digits base (xs ++ ys) ≡ (are_digits base xs && are_digits base ys)
unfolding are_digits
digits_joined base xs ys = list_all-append (is_digit base) xs ys

small : (base n : ℕ) → n < 4294967296 → (ys : List ℕ) → continued base (continued base n []) ys ≡ continued base n ys
small base n h ys = ap (λ k. continued base k ys) (continued_none base n 0 [] (omega arith) h)

pub continued_joined : (base n : ℕ) (xs ys : List ℕ) → n < 4294967296 → continued base n (xs ++ ys) ≡ continued base (continued base n xs) ys
continued_joined base n [] ys h = sym (small base n h ys)
continued_joined base n (x ∷ xs) ys h = grind (arith, continued-cons, continued_joined base (((n * base) % 4294967296 + digit x) % 4294967296) xs ys (omega arith))
