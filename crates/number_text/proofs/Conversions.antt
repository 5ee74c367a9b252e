use Rattle.std.proofs.Common.{◌≡◌, ℕ, ◌+◌, ◌*◌, ◌%◌, ◌<◌, ◌≤◌, List, [], ◌∷◌, length, drop, slice_index, refl, arith}
use Rattle.std.proofs.lemmas.Grind.{common_steps}
use Rattle.std.proofs.lemmas.List.{drop_more, drop_all}
use Rattle.std.proofs.lemmas.List.Sums.{take_while-cons}
use Rattle.number_text.specs.Digits.{digit, is_digit, leading_digits, continued}
use Rattle.number_text.proofs.Values.{continued_none, continued-cons}

leading_more : (base i : ℕ) (t : List ℕ) → i < length t → digit (slice_index t i) < base → leading_digits base (drop i t) ≡ slice_index t i ∷ leading_digits base (drop (i + 1) t)
unfolding leading_digits is_digit
leading_more base i t h q = grind (arith, drop_more, take_while-cons)

leading_stop : (base i : ℕ) (t : List ℕ) → i < length t → base ≤ digit (slice_index t i) → leading_digits base (drop i t) ≡ []
unfolding leading_digits is_digit
leading_stop base i t h q = rw (drop_more t i 0 h) (grind (arith, common_steps))

leading_end : (base i : ℕ) (t : List ℕ) → length t ≤ i → leading_digits base (drop i t) ≡ []
unfolding leading_digits
leading_end base i t h = rw (drop_all i t h) refl

pub run_more : (base i : ℕ) (t : List ℕ) → i < length t → digit (slice_index t i) < base → length (leading_digits base (drop i t)) ≡ 1 + length (leading_digits base (drop (i + 1) t))
run_more base i t h q = rw (leading_more base i t h q) (omega arith)

pub run_stop : (base i : ℕ) (t : List ℕ) → i < length t → base ≤ digit (slice_index t i) → length (leading_digits base (drop i t)) ≡ 0
run_stop base i t h q = rw (leading_stop base i t h q) refl

pub run_end : (base i : ℕ) (t : List ℕ) → length t ≤ i → length (leading_digits base (drop i t)) ≡ 0
run_end base i t h = rw (leading_end base i t h) refl

nothing : (base number : ℕ) → number < 4294967296 → continued base number [] ≡ number
nothing base number h = continued_none base number 0 [] (omega arith) h

pub with_more : (base number i : ℕ) (t : List ℕ) → i < length t → digit (slice_index t i) < base →
    continued base number (leading_digits base (drop i t)) ≡ continued base (((number * base) % 4294967296 + digit (slice_index t i)) % 4294967296) (leading_digits base (drop (i + 1) t))
with_more base number i t h q = grind (arith, leading_more, continued-cons)

pub with_stop : (base number i : ℕ) (t : List ℕ) → i < length t → number < 4294967296 → base ≤ digit (slice_index t i) → continued base number (leading_digits base (drop i t)) ≡ number
with_stop base number i t h k q = rw (leading_stop base i t h q) (nothing base number k)

pub with_end : (base number i : ℕ) (t : List ℕ) → length t ≤ i → number < 4294967296 → continued base number (leading_digits base (drop i t)) ≡ number
with_end base number i t h k = rw (leading_end base i t h) (nothing base number k)

pub ruleset runs = (run_more, run_stop, run_end, with_more, with_stop, with_end)
