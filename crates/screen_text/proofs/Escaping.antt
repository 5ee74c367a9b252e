use Rattle.std.proofs.Common.{◌≡◌, ◌∙◌, Err, ℕ, ◌+◌, ◌-◌, ◌*◌, ◌/◌, ◌%◌, ◌<◌, ◌≤◌, ◌==◌, List, [], ◌∷◌, ◌++◌, flat_map, fold, Bool, true, false, not, ◌&&◌, nat_lt, if◌then◌else◌, append_assoc, append-nil, arith, refl, ap, sym, subst}
use Rattle.std.specs.List.{list_all}
use Rattle.std.proofs.lemmas.Bool.{and_parts, and_from, ltb-true, lt-ltb}
use Rattle.std.proofs.lemmas.List.Folds.{list_all-append}
use Rattle.screen_text.specs.Bytes.{is_blank, is_text, trimmed}
use Rattle.screen_text.specs.Escapes.{Unescaped, digit, escaped, escaped_byte, has_sign, is_byte, is_plain, is_whole, unescaped, value, with_character}
use Rattle.screen_text.specs.declared.cause.Cause.TheVariants.{BadEscape}
use Rattle.screen_text.specs.Screens.{has_mark, marked, written}
use Rattle.screen_text.specs.Reading.{State, with_escapes, with_line, with_plain, with_text}
use Rattle.screen_text.proofs.Blanks.{blank-cons}
use Rattle.screen_text.proofs.Tidy.{IsTidy, taken_plain, text-read, tidy-line, trimmed-again, trimmed-cons}

-- text is bytes
text-byte-is : (b : ℕ) → is_text b ≡ true → is_byte b ≡ true
unfolding is_text is_byte
text-byte-is b e = grind arith

pub text-bytes : (bs : List ℕ) → list_all is_text bs ≡ true → list_all is_byte bs ≡ true
text-bytes [] e = refl
text-bytes (b ∷ bs) e =
    let t = and_parts (is_text b) (list_all is_text bs) e in
    and_from (is_byte b) (list_all is_byte bs) (text-byte-is b t.0) (text-bytes bs t.1)

-- digits are text, no blanks, and read as what they were
pub record IsDigit (d : ℕ) : Type 0 where
  pub text : is_text (digit d) ≡ true
  pub high : 48 ≤ digit d
  pub value : value (digit d) ≡ d

digit-by : (low : Bool) (d : ℕ) → nat_lt d 10 ≡ low → d < 16 → IsDigit d
unfolding digit is_text value
digit-by low d e below = grind arith

pub digit-is : (d : ℕ) → d < 16 → IsDigit d
digit-is d below = digit-by (nat_lt d 10) d refl below

byte-low : (b : ℕ) → is_byte b ≡ true → b < 256
unfolding is_byte
byte-low b e = ltb-true b 256 e

-- an escaped byte is text
escape-text-by : (plain : Bool) (b : ℕ) → is_plain b ≡ plain → b < 256 → list_all is_text (if plain then b ∷ [] else 126 ∷ digit (b / 16) ∷ digit (b % 16) ∷ []) ≡ true
unfolding is_plain
escape-text-by true b e below = let t = and_parts (is_text b) (not (b == 126)) e in rw t.0 refl
escape-text-by false b e below =
    let h : IsDigit (b / 16) = digit-is (b / 16) (omega arith) in
    let l : IsDigit (b % 16) = digit-is (b % 16) (omega arith) in
    rw (h.text, l.text) (unfold is_text in refl)

escape-text : (b : ℕ) → b < 256 → list_all is_text (escaped_byte b) ≡ true
unfolding escaped_byte
escape-text b below = escape-text-by (is_plain b) b refl below

escapes-text : (bs : List ℕ) → list_all is_byte bs ≡ true → list_all is_text (flat_map escaped_byte bs) ≡ true
escapes-text [] e = refl
escapes-text (b ∷ bs) e =
    let t = and_parts (is_byte b) (list_all is_byte bs) e in
    list_all-append is_text (escaped_byte b) (flat_map escaped_byte bs) ∙ rw (escape-text b (byte-low b t.0), escapes-text bs t.1) refl

-- a blank is written as it is, and no other byte begins by one
blank-by : (plain : Bool) (b : ℕ) (rest : List ℕ) → is_plain b ≡ plain → is_blank ((if plain then b ∷ [] else 126 ∷ digit (b / 16) ∷ digit (b % 16) ∷ []) ++ rest) ≡ ((b == 32) && is_blank rest)
unfolding is_plain is_text
blank-by plain b rest e = grind (arith, blank-cons)

blank-escaped : (bs : List ℕ) → is_blank (flat_map escaped_byte bs) ≡ is_blank bs
unfolding escaped_byte
blank-escaped [] = refl
blank-escaped (b ∷ bs) = blank-by (is_plain b) b (flat_map escaped_byte bs) refl ∙ ap (λ r. (b == 32) && r) (blank-escaped bs) ∙ sym (blank-cons b bs)

-- a line without blanks at its end is written without such
tidy-front : (plain : Bool) (b : ℕ) (rest : List ℕ) → b < 256 → ((b == 32) && is_blank rest) ≡ false → trimmed rest ≡ rest →
    trimmed ((if plain then b ∷ [] else 126 ∷ digit (b / 16) ∷ digit (b % 16) ∷ []) ++ rest) ≡ (if plain then b ∷ [] else 126 ∷ digit (b / 16) ∷ digit (b % 16) ∷ []) ++ rest
unfolding trimmed
tidy-front true b rest below e same = rw (blank-cons b rest ∙ e, same) refl
tidy-front false b rest below e same = grind (arith, trimmed-cons, digit-is (b / 16) (omega arith), digit-is (b % 16) (omega arith))

-- what a line without blanks at its end is made of
pub record Ends (b : ℕ) (bs : List ℕ) : Type 0 where
  pub some : is_blank (b ∷ bs) ≡ false
  pub rest : trimmed bs ≡ bs

ends-by : (t : Bool) (b : ℕ) (bs : List ℕ) → is_blank (b ∷ bs) ≡ t → (if t then [] else b ∷ trimmed bs) ≡ b ∷ bs → Ends b bs
ends-by t b bs e same = grind arith

ends : (b : ℕ) (bs : List ℕ) → trimmed (b ∷ bs) ≡ b ∷ bs → Ends b bs
unfolding trimmed
ends b bs e = ends-by (is_blank (b ∷ bs)) b bs refl e

tidy-escapes : (bs : List ℕ) → list_all is_byte bs ≡ true → trimmed bs ≡ bs → trimmed (flat_map escaped_byte bs) ≡ flat_map escaped_byte bs
unfolding escaped_byte
tidy-escapes [] e same = same
tidy-escapes (b ∷ bs) e same =
    let t = and_parts (is_byte b) (list_all is_byte bs) e in
    let n : Ends b bs = ends b bs same in
    let open-blank : ((b == 32) && is_blank (flat_map escaped_byte bs)) ≡ false = ap (λ r. (b == 32) && r) (blank-escaped bs) ∙ sym (blank-cons b bs) ∙ n.some in
    tidy-front (is_plain b) b (flat_map escaped_byte bs) (byte-low b t.0) open-blank (tidy-escapes bs t.1 n.rest)

by-blank : (t : Bool) (b : ℕ) (bs : List ℕ) → is_byte b ≡ true → list_all is_byte bs ≡ true → list_all is_byte (if t then [] else b ∷ bs) ≡ true
by-blank t b bs e more = grind (arith, and_from)

trimmed-bytes : (bs : List ℕ) → list_all is_byte bs ≡ true → list_all is_byte (trimmed bs) ≡ true
unfolding trimmed
trimmed-bytes [] e = refl
trimmed-bytes (b ∷ bs) e =
    let t = and_parts (is_byte b) (list_all is_byte bs) e in
    by-blank (is_blank (b ∷ bs)) b (trimmed bs) t.0 (trimmed-bytes bs t.1)

tidy-escaped : (line : List ℕ) → list_all is_byte line ≡ true → trimmed line ≡ line → IsTidy (escaped line)
unfolding escaped
tidy-escaped line e same =
    record {
      text = rw (escapes-text line e) (unfold is_text in refl);
      trimmed = grind (arith, trimmed-cons, tidy-escapes);
    }

-- what is escaped is read as it was
abbrev into : Unescaped → List ℕ → Unescaped
into u bs = record u { bytes = u.bytes ++ bs }

tilde : (u : Unescaped) → u.begun ≡ 0 → with_character u 126 ≡ record u { begun = 1 }
unfolding with_character
tilde u none = rw none refl

first : (u : Unescaped) (d : ℕ) → d < 16 → with_character (record u { begun = 1 }) (digit d) ≡ record u { begun = 2 + d }
unfolding with_character
first u d below = grind (arith, digit-is d below, lt-ltb d 16 below)

second-by : (u : Unescaped) (n c d : ℕ) → n ≡ 2 + d → value c < 16 → with_character (record u { begun = n }) c ≡ record u { bytes = u.bytes ++ (16 * (n - 2) + value c) ∷ []; begun = 0 }
unfolding with_character
second-by u n c d e below = grind (arith, lt-ltb)

second : (u : Unescaped) (b : ℕ) → b < 256 → u.begun ≡ 0 → with_character (record u { begun = 2 + b / 16 }) (digit (b % 16)) ≡ into u (b ∷ [])
second u b below none =
    let l : IsDigit (b % 16) = digit-is (b % 16) (omega arith) in
    let small : value (digit (b % 16)) < 16 = omega arith in
    let whole : 16 * (2 + b / 16 - 2) + value (digit (b % 16)) ≡ b = omega arith in
    second-by u (2 + b / 16) (digit (b % 16)) (b / 16) refl small
    ∙ ap (λ n. record u { bytes = u.bytes ++ n ∷ []; begun = 0 }) whole
    ∙ ap (λ n. record u { bytes = u.bytes ++ b ∷ []; begun = n }) (sym none)

three : (u : Unescaped) (b : ℕ) → b < 256 → u.begun ≡ 0 → with_character (with_character (with_character u 126) (digit (b / 16))) (digit (b % 16)) ≡ into u (b ∷ [])
three u b below none = grind (arith, tilde, first, second)

plain-one : (u : Unescaped) (b : ℕ) → u.begun ≡ 0 → (b == 126) ≡ false → with_character u b ≡ into u (b ∷ [])
unfolding with_character
plain-one u b none other = rw (none, other) refl

one-by : (plain : Bool) (u : Unescaped) (b : ℕ) (rest : List ℕ) → is_plain b ≡ plain → u.begun ≡ 0 → b < 256 →
    fold with_character u ((if plain then b ∷ [] else 126 ∷ digit (b / 16) ∷ digit (b % 16) ∷ []) ++ rest) ≡ fold with_character (into u (b ∷ [])) rest
unfolding is_plain
one-by plain u b rest e none below = grind (arith, and_parts, plain-one, three)

one-read : (u : Unescaped) (b : ℕ) (rest : List ℕ) → u.begun ≡ 0 → b < 256 → fold with_character u (escaped_byte b ++ rest) ≡ fold with_character (into u (b ∷ [])) rest
unfolding escaped_byte
one-read u b rest none below = one-by (is_plain b) u b rest refl none below

all-read : (u : Unescaped) (bs : List ℕ) → u.begun ≡ 0 → list_all is_byte bs ≡ true → fold with_character u (flat_map escaped_byte bs) ≡ into u bs
all-read u [] none e = ap (λ xs. record u { bytes = xs }) (sym (append-nil u.bytes))
all-read u (b ∷ bs) none e =
    let t = and_parts (is_byte b) (list_all is_byte bs) e in
    one-read u b (flat_map escaped_byte bs) none (byte-low b t.0)
    ∙ all-read (into u (b ∷ [])) bs none t.1
    ∙ ap (λ xs. record u { bytes = xs }) (append_assoc u.bytes (b ∷ []) bs)

pub read-back : (line : List ℕ) → list_all is_byte line ≡ true → unescaped (flat_map escaped_byte line) ≡ record { bytes = line; begun = 0; good = true }
unfolding unescaped
read-back line e = all-read (record { bytes = []; begun = 0; good = true }) line refl e

whole-read : (s : State) (line : List ℕ) → list_all is_byte line ≡ true → with_escapes s (unescaped (flat_map escaped_byte line)) ≡ with_line s line
unfolding with_escapes
whole-read s line e = ap (λ u. if is_whole u then with_line s u.bytes else Err BadEscape) (read-back line e) ∙ unfold is_whole in refl

plain-escaped : (s : State) (line : List ℕ) → list_all is_byte line ≡ true → with_plain s (escaped line) ≡ with_line s line
unfolding with_plain escaped has_mark has_sign
plain-escaped s line e = whole-read s line e

written-by : (text : Bool) (s : State) (bs : List ℕ) → list_all is_text (trimmed bs) ≡ text → list_all is_byte bs ≡ true → with_text s (if text then marked (trimmed bs) else escaped (trimmed bs)) ≡ with_line s (trimmed bs)
written-by true s bs e bytes = ap (λ l. with_text s (marked l)) (sym (trimmed-again bs)) ∙ text-read s (trimmed bs) e ∙ ap (with_line s) (trimmed-again bs)
written-by false s bs e bytes = grind (arith, trimmed-bytes, taken_plain, tidy-escaped, trimmed-again, plain-escaped)

-- a line of a screen is read as it was
pub line-read : (s : State) (bs : List ℕ) → list_all is_byte bs ≡ true → with_text s (written (trimmed bs)) ≡ with_line s (trimmed bs)
unfolding written
line-read s bs e = written-by (list_all is_text (trimmed bs)) s bs refl e

tidy-by : (text : Bool) (bs : List ℕ) → list_all is_text (trimmed bs) ≡ text → list_all is_byte bs ≡ true → IsTidy (if text then marked (trimmed bs) else escaped (trimmed bs))
tidy-by true bs e bytes = subst (λ l. IsTidy (marked l)) (trimmed-again bs) (tidy-line (trimmed bs) e)
tidy-by false bs e bytes = tidy-escaped (trimmed bs) (trimmed-bytes bs bytes) (trimmed-again bs)

-- and it is written tidy
pub tidy-written : (bs : List ℕ) → list_all is_byte bs ≡ true → IsTidy (written (trimmed bs))
unfolding written
tidy-written bs e = tidy-by (list_all is_text (trimmed bs)) bs refl e

-- what is read of escapes are bytes
record Fits (u : Unescaped) : Type 0 where
  pub bytes : list_all is_byte u.bytes ≡ true
  pub begun : u.begun ≤ 17

push-byte : (xs : List ℕ) (b : ℕ) → list_all is_byte xs ≡ true → is_byte b ≡ true → list_all is_byte (xs ++ b ∷ []) ≡ true
push-byte xs b e f = list_all-append is_byte xs (b ∷ []) ∙ rw (e, f) refl

step-by : (none sign digital one : Bool) (u : Unescaped) (c : ℕ) → (u.begun == 0) ≡ none → (c == 126) ≡ sign → nat_lt (value c) 16 ≡ digital → (u.begun == 1) ≡ one → is_byte c ≡ true → Fits u →
    Fits (if none then (if sign then record u { begun = 1 } else record u { bytes = u.bytes ++ c ∷ [] })
    else if not digital then record u { good = false }
    else if one then record u { begun = 2 + value c }
    else record u { bytes = u.bytes ++ (16 * (u.begun - 2) + value c) ∷ []; begun = 0 })
unfolding is_byte
step-by none sign digital one u c a b d e byte h = grind (arith, push-byte, ltb-true, lt-ltb)

step : (u : Unescaped) (c : ℕ) → is_byte c ≡ true → Fits u → Fits (with_character u c)
unfolding with_character
step u c byte h = step-by (u.begun == 0) (c == 126) (nat_lt (value c) 16) (u.begun == 1) u c refl refl refl refl byte h

all-steps : (u : Unescaped) (text : List ℕ) → list_all is_byte text ≡ true → Fits u → Fits (fold with_character u text)
all-steps u [] e h = h
all-steps u (c ∷ text) e h =
    let t = and_parts (is_byte c) (list_all is_byte text) e in
    all-steps (with_character u c) text t.1 (step u c t.0 h)

pub unescaped-bytes : (text : List ℕ) → list_all is_byte text ≡ true → list_all is_byte (unescaped text).bytes ≡ true
unfolding unescaped
unescaped-bytes text e = (all-steps (record { bytes = []; begun = 0; good = true }) text e (record { bytes = refl; begun = omega arith })).bytes
