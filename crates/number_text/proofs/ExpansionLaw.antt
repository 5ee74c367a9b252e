use Rattle.std.proofs.Common.{◌≡◌, ℕ, ◌+◌, ◌*◌, ◌^◌, ◌<◌, ◌≤◌, List, [], ◌∷◌, length, map, refl, true, arith, IsTrue, sym, ◌∙◌, inl, inr, slice_index}
use Rattle.std.specs.Prelude.{All}
use Rattle.std.specs.List.{AllByRecursion}
use Rattle.std.proofs.lemmas.Bool.{cases_lt}
use Rattle.std.proofs.lemmas.List.Elements.{All-from_recursion, recursion_from_All}
use Rattle.std.proofs.lemmas.Int.Digits.{number_digits_of, all_below_base_digits_of, first_digits_of}
use Rattle.std.proofs.Math.Nat.{mul_assoc, mul_comm, pow-suc, pow-zero, add-mul}
use Rattle.std.specs.Int.Digits.{number_from_digits_after, number_from_digits, digits_of}
use Rattle.number_text.specs.Digits.{is_base, byte_of, digit, is_digit, are_digits, value, text_value, expansion}
use Rattle.number_text.proofs.Expansions.{expansion_zero, expansion_some}

step : (n b d p v : ℕ) → (n * b + d) * p + v ≡ n * (p * b) + (d * p + v)
step n b d p v = grind (arith, add-mul, mul_assoc, mul_comm)

-- digits that are read one by one stand for their sum of powers
read_after : (b n : ℕ) (ds : List ℕ) → number_from_digits_after b n ds ≡ n * b ^ length ds + value b ds
unfolding value
read_after b n [] = let e : n * b ^ 0 + 0 ≡ n = rw (pow-zero b) (omega arith) in sym e
read_after b n (d ∷ ds) = read_after b (n * b + d) ds ∙ rw (pow-suc b (length ds)) (step n b d (b ^ length ds) (value b ds))

-- what the expansion stands for is the number
pub value-expansion : (base number : ℕ) → IsTrue (is_base base) → value base (expansion base number) ≡ number
unfolding value
value-expansion base number h =
    let l : 2 ≤ base = grind arith in
    elim (cases_lt 0 number) [
      | inl p ↦
          let r : number_from_digits base (digits_of base number) ≡ 0 * base ^ length (digits_of base number) + value base (digits_of base number) =
          read_after base 0 (digits_of base number) in
          let q : number_from_digits base (digits_of base number) ≡ number = number_digits_of base number l in
          rw (expansion_some base number p) (omega arith)
      | inr p ↦ rw (expansion_zero base number p) (omega arith)
    ]

-- each digit is below the base
pub all_below-expansion : (base number : ℕ) → IsTrue (is_base base) → All (λ d. d < base) (expansion base number)
all_below-expansion base number h =
    let l : 2 ≤ base = grind arith in
    elim (cases_lt 0 number) [
      | inl p ↦ rw (expansion_some base number p) (All-from_recursion (λ d. d < base) (digits_of base number) (all_below_base_digits_of base number l))
      | inr p ↦ rw (expansion_zero base number p) (All-from_recursion (λ d. d < base) (0 ∷ []) (omega arith, tt))
    ]

-- no leading zero
pub first-expansion : (base number : ℕ) → IsTrue (is_base base) → 0 < number → 0 < slice_index (expansion base number) 0
first-expansion base number h p = grind (arith, expansion_some, first_digits_of)

pub expansion-zero : (base : ℕ) → expansion base 0 ≡ 0 ∷ []
expansion-zero base = expansion_zero base 0 (omega arith)

-- bytes of digits show these digits
digit-byte_of : (d : ℕ) → d < 72 → digit (byte_of d) ≡ d
unfolding digit
digit-byte_of d h = grind arith

shown_back : (base : ℕ) (ds : List ℕ) → base ≤ 72 → AllByRecursion (λ d. d < base) ds → map digit (map byte_of ds) ≡ ds
shown_back base [] h all = refl
shown_back base (d ∷ ds) h all = grind (arith, digit-byte_of, shown_back base ds h all.1)

shown_digits : (base : ℕ) (ds : List ℕ) → base ≤ 72 → AllByRecursion (λ d. d < base) ds → are_digits base (map byte_of ds) ≡ true
unfolding are_digits is_digit
shown_digits base [] h all = refl
shown_digits base (d ∷ ds) h all = grind (arith, digit-byte_of, shown_digits base ds h all.1)

-- a number that is shown reads as itself
pub text_value-expansion : (base number : ℕ) → IsTrue (is_base base) → text_value base (map byte_of (expansion base number)) ≡ number
unfolding text_value
text_value-expansion base number h = grind (arith, recursion_from_All, all_below-expansion, shown_back, value-expansion)

pub are_digits-expansion : (base number : ℕ) → IsTrue (is_base base) → are_digits base (map byte_of (expansion base number)) ≡ true
are_digits-expansion base number h = grind (arith, shown_digits, recursion_from_All, all_below-expansion)

pub ruleset expansion_laws = (value-expansion, all_below-expansion, first-expansion, expansion-zero, text_value-expansion, are_digits-expansion)
