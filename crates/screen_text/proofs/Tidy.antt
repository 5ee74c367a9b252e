use Rattle.std.proofs.Common.{◌≡◌, ◌≢◌, ◌∙◌, ℕ, suc, ◌+◌, ◌-◌, ◌<◌, ◌≤◌, ◌==◌, List, [], ◌∷◌, ◌++◌, length, drop, Bool, true, false, ◌||◌, if◌then◌else◌, arith, refl, ap, sym}
use Rattle.std.specs.Prelude.{codes, decimal, bytes_eq}
use Rattle.std.specs.List.{list_all}
use Rattle.std.proofs.lemmas.List.Folds.{list_all-append}
use Rattle.screen_text.specs.Bytes.{blanks, padded, is_blank, is_text, trimmed, spread}
use Rattle.screen_text.specs.Escapes.{has_sign}
use Rattle.screen_text.specs.Screens.{heading, has_mark, marked}
use Rattle.screen_text.specs.Reading.{State, is_heading, with_line, with_plain, with_screen, with_text}
use Rattle.screen_text.proofs.Blanks.{blank-cons, trimmed-text}
use Rattle.screen_text.proofs.Numbers.{Digits, digits_of, number-heading}

-- a line as it is written: text, and no blank at its end
pub record IsTidy (line : List ℕ) : Type 0 where
  pub text : list_all is_text line ≡ true
  pub trimmed : trimmed line ≡ line

text-byte : (b : ℕ) → is_text b ≡ true → ((b == 9) || is_text b) ≡ true
text-byte b e = grind arith

no-tab : (b : ℕ) → is_text b ≡ true → (b == 9) ≡ false
unfolding is_text
no-tab b e = grind arith

pub lined : (line : List ℕ) → list_all is_text line ≡ true → list_all (λ b. b == 9 || is_text b) line ≡ true
lined [] e = refl
lined (b ∷ line) e = grind (arith, text-byte, lined line (grind arith))

pub unspread : (column : ℕ) (line : List ℕ) → list_all is_text line ≡ true → spread column line ≡ line
unfolding spread
unspread column [] e = refl
unspread column (b ∷ line) e = grind (arith, no-tab, unspread (column + 1) line (grind arith))

-- a tidy line is taken as it is
pub taken_plain : (s : State) (line : List ℕ) → IsTidy line → with_text s line ≡ with_plain s line
unfolding with_text
taken_plain s line h = rw (lined line h.text, unspread 0 line h.text, h.trimmed) refl

has-front : (line : List ℕ) → has_mark (37 ∷ line) ≡ true
unfolding has_mark
has-front line = refl

heading-one : (n : ℕ) → has_mark (heading n) ≡ true
unfolding has_mark heading
heading-one n = refl

heading-two : (n : ℕ) → has_mark (drop 1 (heading n)) ≡ false
unfolding has_mark heading
heading-two n = refl

heading-sign : (n : ℕ) → has_sign (drop 1 (heading n)) ≡ false
unfolding has_sign heading
heading-sign n = refl

-- a line of a screen is read as it was, whether it begins with % or not
pub unmarked : (s : State) (line : List ℕ) (m : Bool) → has_mark line ≡ m → with_plain s (if m then 37 ∷ line else line) ≡ with_line s line
unfolding with_plain
unmarked s line m e = grind (arith, has-front)

same-bytes : (xs : List ℕ) → bytes_eq xs xs ≡ true
same-bytes [] = refl
same-bytes (x ∷ xs) = grind (arith, same-bytes xs)

pub headed : (s : State) (n : ℕ) → n < 65536 → with_plain s (heading n) ≡ with_screen s n
unfolding with_plain is_heading
headed s n small = grind (arith, number-heading, heading-one, heading-two, heading-sign, same-bytes)

-- bytes that begin with one that is no blank
pub trimmed-cons : (b : ℕ) (bs : List ℕ) → b ≢ 32 → trimmed (b ∷ bs) ≡ b ∷ trimmed bs
unfolding trimmed
trimmed-cons b bs h = grind (arith, blank-cons)

by_blank : (t : Bool) (b : ℕ) (bs : List ℕ) → is_text b ≡ true → list_all is_text bs ≡ true → list_all is_text (if t then [] else b ∷ bs) ≡ true
by_blank t b bs e more = grind arith

pub trimmed-text-of : (bs : List ℕ) → list_all is_text bs ≡ true → list_all is_text (trimmed bs) ≡ true
unfolding trimmed
trimmed-text-of [] e = refl
trimmed-text-of (b ∷ bs) e = grind (arith, by_blank, trimmed-text-of bs (grind arith))

-- what is blank is all blanks
pub blank-is : (bs : List ℕ) → is_blank bs ≡ true → bs ≡ blanks (length bs)
unfolding is_blank blanks
blank-is [] e = refl
blank-is (b ∷ bs) e = grind (arith, blank-is bs (grind arith))

blank-by : (t : Bool) (b : ℕ) (bs : List ℕ) → is_blank (b ∷ bs) ≡ t → is_blank (trimmed bs) ≡ is_blank bs → is_blank (if t then [] else b ∷ trimmed bs) ≡ is_blank (b ∷ bs)
unfolding is_blank
blank-by t b bs e more = grind arith

blank-of-trimmed : (bs : List ℕ) → is_blank (trimmed bs) ≡ is_blank bs
unfolding trimmed
blank-of-trimmed [] = refl
blank-of-trimmed (b ∷ bs) = blank-by (is_blank (b ∷ bs)) b bs refl (blank-of-trimmed bs)

again-by : (t : Bool) (b : ℕ) (bs : List ℕ) → is_blank (b ∷ bs) ≡ t → trimmed (trimmed bs) ≡ trimmed bs → trimmed (if t then [] else b ∷ trimmed bs) ≡ (if t then [] else b ∷ trimmed bs)
unfolding trimmed
again-by t b bs e more = grind (arith, blank-cons, blank-of-trimmed)

pub trimmed-again : (bs : List ℕ) → trimmed (trimmed bs) ≡ trimmed bs
unfolding trimmed
trimmed-again [] = refl
trimmed-again (b ∷ bs) = again-by (is_blank (b ∷ bs)) b bs refl (trimmed-again bs)

tidy-by : (line : List ℕ) (m : Bool) → IsTidy line → IsTidy (if m then 37 ∷ line else line)
unfolding is_text
tidy-by line m h = grind (arith, trimmed-cons)

-- a line of a screen is written tidy
pub tidy-line : (bs : List ℕ) → list_all is_text bs ≡ true → IsTidy (marked (trimmed bs))
unfolding marked
tidy-line bs e = tidy-by (trimmed bs) (has_mark (trimmed bs)) (record { text = trimmed-text-of bs e; trimmed = trimmed-again bs })

-- and so is a heading
pub tidy-heading : (n : ℕ) → n < 65536 → IsTidy (heading n)
unfolding heading
tidy-heading n small =
    let d : Digits n (decimal n) = digits_of n small in
    let is : heading n ≡ (codes "% screen " ++ d.front) ++ d.last ∷ [] = ap (λ ds. codes "% screen " ++ ds) d.is in
    record {
      text = list_all-append is_text (codes "% screen ") (decimal n) ∙ rw d.text (unfold is_text in refl);
      trimmed = ap trimmed is ∙ trimmed-text (codes "% screen " ++ d.front) d.last (let high : 48 ≤ d.last = d.high in λ e. omega arith) ∙ sym is;
    }

pub text-read : (s : State) (bs : List ℕ) → list_all is_text bs ≡ true → with_text s (marked (trimmed bs)) ≡ with_line s (trimmed bs)
text-read s bs e = taken_plain s (marked (trimmed bs)) (tidy-line bs e) ∙ unfold marked in unmarked s (trimmed bs) (has_mark (trimmed bs)) refl

pub heading-read : (s : State) (n : ℕ) → n < 65536 → with_text s (heading n) ≡ with_screen s n
heading-read s n small = taken_plain s (heading n) (tidy-heading n small) ∙ headed s n small

padded-by : (t : Bool) (b : ℕ) (bs : List ℕ) → is_blank (b ∷ bs) ≡ t → padded (length bs) (trimmed bs) ≡ bs → padded (length (b ∷ bs)) (if t then [] else b ∷ trimmed bs) ≡ b ∷ bs
unfolding padded
padded-by true b bs e more = (let z : suc (length bs) - 0 ≡ length (b ∷ bs) = omega arith in ap blanks z) ∙ sym (blank-is (b ∷ bs) e)
padded-by false b bs e more = grind arith

-- filled again
pub padded-trimmed : (bs : List ℕ) → padded (length bs) (trimmed bs) ≡ bs
unfolding padded trimmed
padded-trimmed [] = unfold blanks in refl
padded-trimmed (b ∷ bs) = padded-by (is_blank (b ∷ bs)) b bs refl (padded-trimmed bs)
