use Rattle.std.proofs.Common.{◌≡◌, ℕ, ◌+◌, ◌-◌, ◌*◌, ◌/◌, ◌%◌, ◌<◌, ◌≤◌, min, List, [], ◌∷◌, ◌++◌, drop, true, arith, refl}
use Rattle.std.specs.Prelude.{decimal}
use Rattle.std.specs.List.{list_all}
use Rattle.std.proofs.lemmas.Grind.{common_steps}
use Rattle.std.proofs.lemmas.Fmt.{decimal_by_steps}
use Rattle.std.proofs.lemmas.List.Folds.{list_all-append}
use Rattle.screen_text.specs.Bytes.{is_text}
use Rattle.screen_text.specs.Screens.{heading}
use Rattle.screen_text.specs.Reading.{number_of}

-- what a number's digits are known to be
pub record Digits (n : ℕ) (digits : List ℕ) : Type 0 where
  pub value : n < 65536 → number_of digits ≡ n
  pub text : list_all is_text digits ≡ true
  pub front : List ℕ
  pub last : ℕ
  pub is : digits ≡ front ++ last ∷ []
  pub high : 48 ≤ last

digit-text : (d : ℕ) → d < 10 → is_text (48 + d) ≡ true
unfolding is_text
digit-text d below = grind arith

one_digit : (n : ℕ) → n < 10 → Digits n ((48 + n) ∷ [])
unfolding number_of
one_digit n below =
    let t : is_text (48 + n) ≡ true = digit-text n below in
    record { value = λ small. grind arith; text = rw t refl; front = []; last = 48 + n; is = refl; high = omega arith }

number-more : (ds : List ℕ) (d : ℕ) → number_of (ds ++ d ∷ []) ≡ min 65536 (10 * number_of ds + (d - 48))
unfolding number_of
number-more ds d = grind (arith, common_steps)

more_digits : (n : ℕ) (ds : List ℕ) → 10 ≤ n → Digits (n / 10) ds → Digits n (ds ++ (48 + n % 10) ∷ [])
more_digits n ds high h = grind (arith, digit-text, number-more, list_all-append)

pub digits_of : (n : ℕ) → n < 65536 → Digits n (decimal n)
digits_of n small = decimal_by_steps Digits one_digit more_digits n (omega arith)

pub number-heading : (n : ℕ) → n < 65536 → number_of (drop 9 (heading n)) ≡ n
unfolding heading
number-heading n small = (digits_of n small).value small
