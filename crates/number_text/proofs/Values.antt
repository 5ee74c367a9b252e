use Rattle.std.proofs.Common.{◌≡◌, ℕ, ◌+◌, ◌*◌, ◌^◌, ◌%◌, ◌<◌, ◌≤◌, List, ◌∷◌, length, drop, slice_index, refl, arith, true, false, ◌∙◌, ap}
use Rattle.std.proofs.lemmas.Grind.{common_steps}
use Rattle.std.proofs.lemmas.List.{drop_more, drop_all, length-map}
use Rattle.std.proofs.lemmas.Nat.{mul-mod_first}
use Rattle.std.proofs.Math.Nat.{mul_assoc, mul_comm, pow-suc, pow-zero, add-mul}
use Rattle.number_text.specs.Digits.{digit, is_digit, are_digits, value, text_value, continued}

pub are_none : (base i : ℕ) (t : List ℕ) → length t ≤ i → are_digits base (drop i t) ≡ true
unfolding are_digits
are_none base i t h = rw (drop_all i t h) refl

pub are_not : (base i : ℕ) (t : List ℕ) → i < length t → base ≤ digit (slice_index t i) → are_digits base (drop i t) ≡ false
unfolding are_digits is_digit
are_not base i t h q = rw (drop_more t i 0 h) (grind (arith, common_steps))

pub are_more : (base i : ℕ) (t : List ℕ) → i < length t → digit (slice_index t i) < base → are_digits base (drop i t) ≡ are_digits base (drop (i + 1) t)
unfolding are_digits is_digit
are_more base i t h q = rw (drop_more t i 0 h) (grind (arith, common_steps))

text_value-cons : (base c : ℕ) (cs : List ℕ) → text_value base (c ∷ cs) ≡ digit c * base ^ length cs + text_value base cs
unfolding text_value value
text_value-cons base c cs = rw (length-map cs digit) refl

plain : (base number : ℕ) → number < 4294967296 → (number * base ^ 0 + 0) % 4294967296 ≡ number
plain base number q = rw (pow-zero base) (grind arith)

pub continued_none : (base number i : ℕ) (t : List ℕ) → length t ≤ i → number < 4294967296 → continued base number (drop i t) ≡ number
unfolding continued text_value value
continued_none base number i t h q = rw (drop_all i t h) (plain base number q)

-- one digit more, with what is kept modulo 2^32
one_digit : (n b d p v : ℕ) → (((n * b) % 4294967296 + d) % 4294967296 * p + v) % 4294967296 ≡ (n * (p * b) + (d * p + v)) % 4294967296
one_digit n b d p v =
    let x : ℕ = (n * b) % 4294967296 + d in
    let e1 : (x % 4294967296 * p) % 4294967296 ≡ (x * p) % 4294967296 = mul-mod_first x p 4294967296 in
    let e2 : x * p ≡ (n * b) % 4294967296 * p + d * p = add-mul ((n * b) % 4294967296) d p in
    let e3 : ((n * b) % 4294967296 * p) % 4294967296 ≡ (n * b * p) % 4294967296 = mul-mod_first (n * b) p 4294967296 in
    let e4 : n * b * p ≡ n * (p * b) = mul_assoc n b p ∙ ap (λ (y : ℕ). n * y) (mul_comm b p) in
    omega arith

pub continued-cons : (base number c : ℕ) (cs : List ℕ) →
    continued base number (c ∷ cs) ≡ continued base (((number * base) % 4294967296 + digit c) % 4294967296) cs
unfolding continued
continued-cons base number c cs = grind (arith, text_value-cons, pow-suc, one_digit)

pub continued_more : (base number i : ℕ) (t : List ℕ) → i < length t →
    continued base number (drop i t) ≡ continued base (((number * base) % 4294967296 + digit (slice_index t i)) % 4294967296) (drop (i + 1) t)
continued_more base number i t h = rw (drop_more t i 0 h) (continued-cons base number (slice_index t i) (drop (i + 1) t))

pub ruleset steps = (are_none, are_not, are_more, continued_none, continued_more)

pub value_is : (base : ℕ) (t : List ℕ) → continued base 0 t ≡ text_value base t % 4294967296
unfolding continued
value_is base t = grind arith
