use Rattle.std.proofs.Common.{◌≡◌, ◌∙◌, ℕ, zero, suc, ◌+◌, ◌-◌, ◌*◌, ◌%◌, ◌<◌, ◌≤◌, ◌==◌, List, [], ◌∷◌, ◌++◌, length, drop, Bool, true, false, not, ◌||◌, nat_lt, nat_le, if◌then◌else◌, length-append, arith, Ok, Err, Result, refl, ap}
use Rattle.std.specs.Prelude.{eqb}
use Rattle.std.specs.List.{list_all, list_any, IsDistinct, AllByRecursion}
use Rattle.std.proofs.lemmas.List.Folds.{list_all-append}
use Rattle.screen_text.specs.declared.cause.Cause.{Cause}
use Rattle.screen_text.specs.declared.cause.Cause.TheVariants.{BadByte, BadEscape, LongLine, FullScreen, BadHeading, LateHeading, NamedTwice, NoScreen}
use Rattle.screen_text.specs.declared.cause.TextFault.{TextFault}
use Rattle.screen_text.specs.Bytes.{bad_byte, blanks, padded, is_text, trimmed, spread}
use Rattle.screen_text.specs.Escapes.{Unescaped, has_sign, is_byte, is_whole, unescaped}
use Rattle.screen_text.specs.Screens.{has_mark}
use Rattle.screen_text.specs.Reading.{State, is_heading, number_of, nothing, then_read, whole, with_escapes, with_line, with_plain, with_screen, with_text, with_texts}
use Rattle.screen_text.proofs.Blanks.{length-blanks}
use Rattle.screen_text.proofs.Tidy.{trimmed-text-of}
use Rattle.screen_text.proofs.Rereading.{all-back}
use Rattle.screen_text.proofs.Escaping.{text-bytes, unescaped-bytes}

-- what holds of all that is read
pub record IsGood (s : State) : Type 0 where
  pub low : list_all (λ n. nat_lt n 65536) s.numbers ≡ true
  pub distinct : IsDistinct eqb s.numbers
  pub counted : s.headed ≡ false → list_all (λ n. nat_le n (length s.numbers)) s.numbers ≡ true
  pub rows : ℕ
  pub size : length s.bytes ≡ 64 * rows
  pub fits : length s.bytes ≤ 1024 * length s.numbers
  pub bytes : list_all is_byte s.bytes ≡ true

abbrev pub IsGoodResult : Result State Cause → Type 0
IsGoodResult (Ok s) = IsGood s
IsGoodResult (Err cause) = Unit {0}

all-below : (numbers : List ℕ) (x : ℕ) → AllByRecursion (λ y. eqb x y ≡ false) numbers → (n : ℕ) → eqb x n ≡ false → AllByRecursion (λ y. eqb x y ≡ false) (numbers ++ n ∷ [])
all-below [] x h n e = (e, tt)
all-below (m ∷ numbers) x h n e = (h.0, all-below numbers x h.1 n e)

-- one number more that didn't exist
distinct-more : (numbers : List ℕ) (n : ℕ) → IsDistinct eqb numbers → list_any (λ m. m == n) numbers ≡ false → IsDistinct eqb (numbers ++ n ∷ [])
unfolding IsDistinct
distinct-more [] n h e = (tt, tt)
distinct-more (m ∷ numbers) n h e = grind (arith, all-below, distinct-more numbers n h.1 (grind arith))

not-above : (numbers : List ℕ) (count : ℕ) → list_all (λ n. nat_le n count) numbers ≡ true → list_any (λ m. m == count + 1) numbers ≡ false
not-above [] count e = refl
not-above (n ∷ numbers) count e = grind (arith, not-above numbers count (grind arith))

higher : (numbers : List ℕ) (count : ℕ) → list_all (λ n. nat_le n count) numbers ≡ true → list_all (λ n. nat_le n (count + 1)) numbers ≡ true
higher [] count e = refl
higher (n ∷ numbers) count e = grind (arith, higher numbers count (grind arith))

blanks-text : (n : ℕ) → list_all is_text (blanks n) ≡ true
unfolding blanks is_text
blanks-text zero = refl
blanks-text (suc n) = blanks-text n

blanks-bytes : (n : ℕ) → list_all is_byte (blanks n) ≡ true
unfolding blanks is_byte
blanks-bytes zero = refl
blanks-bytes (suc n) = blanks-bytes n

pub padded-bytes : (n : ℕ) (bs : List ℕ) → list_all is_byte bs ≡ true → list_all is_byte (padded n bs) ≡ true
unfolding padded
padded-bytes n bs e = list_all-append is_byte bs (blanks (n - length bs)) ∙ rw (e, blanks-bytes (n - length bs)) refl

pub length-padded : (n : ℕ) (bs : List ℕ) → length bs ≤ n → length (padded n bs) ≡ n
unfolding padded
length-padded n bs h = omega (arith, length-append bs (blanks (n - length bs)), length-blanks (n - length bs))

more-bytes : (xs ys : List ℕ) → list_all is_byte xs ≡ true → list_all is_byte ys ≡ true → list_all is_byte (xs ++ ys) ≡ true
more-bytes xs ys a b = list_all-append is_byte xs ys ∙ rw (a, b) refl

more-text : (xs ys : List ℕ) → list_all is_text xs ≡ true → list_all is_text ys ≡ true → list_all is_text (xs ++ ys) ≡ true
more-text xs ys a b = list_all-append is_text xs ys ∙ rw (a, b) refl

-- a line in the last screen
in_room : (s : State) (line : List ℕ) → IsGood s → length line ≤ 64 → list_all is_byte line ≡ true → length s.bytes < 1024 * length s.numbers → IsGood (record s { bytes = s.bytes ++ padded 64 line })
in_room s line h short text some =
    let size : length (s.bytes ++ padded 64 line) ≡ 64 * (h.rows + 1) = (let z = h.size in omega (arith, length-append s.bytes (padded 64 line), length-padded 64 line short)) in
    search (arith, more-bytes, padded-bytes)

-- a line that begins the next screen
in_next : (s : State) (line : List ℕ) → IsGood s → s.headed ≡ false → length line ≤ 64 → list_all is_byte line ≡ true → length s.numbers < 65535 →
    IsGood (record s { numbers = s.numbers ++ (length s.numbers + 1) ∷ []; bytes = s.bytes ++ padded 64 line })
in_next s line h plain short text some =
    let size : length (s.bytes ++ padded 64 line) ≡ 64 * (h.rows + 1) = (let z = h.size in omega (arith, length-append s.bytes (padded 64 line), length-padded 64 line short)) in
    let count : length (s.numbers ++ (length s.numbers + 1) ∷ []) ≡ length s.numbers + 1 = length-append s.numbers ((length s.numbers + 1) ∷ []) in
    let low : nat_lt (length s.numbers + 1) 65536 ≡ true = grind arith in
    let top : nat_le (length s.numbers + 1) (length s.numbers + 1) ≡ true = grind arith in
    let counted : list_all (λ n. nat_le n (length s.numbers)) s.numbers ≡ true = h.counted plain in
    record {
      low = grind (arith, list_all-append);
      distinct = distinct-more s.numbers (length s.numbers + 1) h.distinct (not-above s.numbers (length s.numbers) counted);
      counted = λ e. ap (λ k. list_all (λ n. nat_le n k) (s.numbers ++ (length s.numbers + 1) ∷ [])) count
          ∙ list_all-append (λ n. nat_le n (length s.numbers + 1)) s.numbers ((length s.numbers + 1) ∷ []) ∙ rw (higher s.numbers (length s.numbers) counted, top) refl;
      rows = h.rows + 1;
      size = size;
      fits = (let z = h.size in let f = h.fits in omega arith);
      bytes = more-bytes s.bytes (padded 64 line) h.bytes (padded-bytes 64 line text);
    }

line_by : (long room headed next : Bool) (s : State) (line : List ℕ) → nat_lt 64 (length line) ≡ long → nat_lt (length s.bytes) (1024 * length s.numbers) ≡ room → s.headed ≡ headed → nat_lt (length s.numbers) 65535 ≡ next →
    IsGood s → list_all is_byte line ≡ true →
    IsGoodResult (if long then Err LongLine
    else if room then Ok (record s { bytes = s.bytes ++ padded 64 line })
    else if headed then Err FullScreen
    else if next then Ok (record s { numbers = s.numbers ++ (length s.numbers + 1) ∷ []; bytes = s.bytes ++ padded 64 line })
    else Err NoScreen)
line_by long room headed next s line a b c d h text = grind (arith, in_room, in_next)

good_line : (s : State) (line : List ℕ) → IsGood s → list_all is_byte line ≡ true → IsGoodResult (with_line s line)
unfolding with_line
good_line s line h text = line_by (nat_lt 64 (length line)) (nat_lt (length s.bytes) (1024 * length s.numbers)) s.headed (nat_lt (length s.numbers) 65535) s line refl refl refl refl h text

screen_by : (late twice room : Bool) (s : State) (n : ℕ) → list_any (λ m. m == n) s.numbers ≡ twice → IsGood s → n < 65536 →
    IsGoodResult (if late then Err LateHeading
    else if twice then Err NamedTwice
    else if room then Err NoScreen
    else Ok (record { headed = true; numbers = s.numbers ++ n ∷ []; bytes = whole s }))
unfolding whole
screen_by true twice room s n e h small = tt
screen_by false true room s n e h small = tt
screen_by false false true s n e h small = tt
screen_by false false false s n e h small =
    let low : nat_lt n 65536 ≡ true = grind arith in
    let size : length (padded (1024 * length s.numbers) s.bytes) ≡ 1024 * length s.numbers = length-padded (1024 * length s.numbers) s.bytes h.fits in
    record {
      low = grind (arith, list_all-append);
      distinct = distinct-more s.numbers n h.distinct e;
      counted = λ plain. absurd (cc);
      rows = 16 * length s.numbers;
      size = omega arith;
      fits = omega (arith, length-append s.numbers (n ∷ []));
      bytes = padded-bytes (1024 * length s.numbers) s.bytes h.bytes;
    }

good_screen : (s : State) (n : ℕ) → IsGood s → n < 65536 → IsGoodResult (with_screen s n)
unfolding with_screen
good_screen s n h small = screen_by (not (s.headed || length s.numbers == 0)) (list_any (λ m. m == n) s.numbers) (not (nat_lt (length s.numbers) 65536)) s n refl h small

escapes_by : (whole : Bool) (s : State) (u : Unescaped) → IsGood s → list_all is_byte u.bytes ≡ true → IsGoodResult (if whole then with_line s u.bytes else Err BadEscape)
escapes_by x0 s u h bytes = grind (arith, good_line)

good_escapes : (s : State) (text : List ℕ) → IsGood s → list_all is_text text ≡ true → IsGoodResult (with_escapes s (unescaped text))
unfolding with_escapes
good_escapes s text h e = escapes_by (is_whole (unescaped text)) s (unescaped text) h (unescaped-bytes text (text-bytes text e))

plain_by : (marked twice signed named : Bool) (s : State) (line : List ℕ) → is_heading line ≡ named → IsGood s → list_all is_text line ≡ true →
    IsGoodResult (if not marked then with_line s line
    else if twice then with_line s (drop 1 line)
    else if signed then with_escapes s (unescaped (drop 2 line))
    else if named then with_screen s (number_of (drop 9 line))
    else Err BadHeading)
unfolding is_heading
plain_by marked twice signed named s line e h text = grind (arith, good_line, text-bytes, all-back, good_escapes, good_screen)

good_plain : (s : State) (line : List ℕ) → IsGood s → list_all is_text line ≡ true → IsGoodResult (with_plain s line)
unfolding with_plain
good_plain s line h text = plain_by (has_mark line) (has_mark (drop 1 line)) (has_sign (drop 1 line)) (is_heading line) s line refl h text

spread-by : (tab : Bool) (b column : ℕ) (bs : List ℕ) → (b == 9) ≡ tab → (b == 9 || is_text b) ≡ true → ((c : ℕ) → list_all is_text (spread c bs) ≡ true) →
    list_all is_text (if tab then blanks (8 - column % 8) ++ spread (column + (8 - column % 8)) bs else b ∷ spread (column + 1) bs) ≡ true
spread-by tab b column bs e good more = grind (arith, more-text, blanks-text)

spread-text : (column : ℕ) (bs : List ℕ) → list_all (λ b. b == 9 || is_text b) bs ≡ true → list_all is_text (spread column bs) ≡ true
unfolding spread
spread-text column [] e = refl
spread-text column (b ∷ bs) e = spread-by (b == 9) b column bs refl (grind arith) (λ c. spread-text c bs (grind arith))

text_by : (fine : Bool) (s : State) (line : List ℕ) → list_all (λ b. b == 9 || is_text b) line ≡ fine → IsGood s → IsGoodResult (if fine then with_plain s (trimmed (spread 0 line)) else Err (BadByte (bad_byte line)))
text_by fine s line e h = grind (arith, good_plain, trimmed-text-of, spread-text)

good_text : (s : State) (line : List ℕ) → IsGood s → IsGoodResult (with_text s line)
unfolding with_text
good_text s line h = text_by (list_all (λ b. b == 9 || is_text b) line) s line refl h

abbrev pub IsGoodText : Result State TextFault → Type 0
IsGoodText (Ok s) = IsGood s
IsGoodText (Err fault) = Unit {0}

then_good : (k : ℕ) (r : Result State Cause) (next : State → Result State TextFault) → IsGoodResult r → ((s : State) → IsGood s → IsGoodText (next s)) → IsGoodText (then_read k r next)
then_good k r next h more = grind arith

pub good_texts : (k : ℕ) (s : State) (texts : List (List ℕ)) → IsGood s → IsGoodText (with_texts k s texts)
unfolding with_texts
good_texts k s [] h = h
good_texts k s (text ∷ texts) h = then_good k (with_text s text) (λ t. with_texts (k + 1) t texts) (good_text s text h) (λ t g. good_texts (k + 1) t texts g)

pub good_nothing : IsGood nothing
unfolding nothing IsDistinct
good_nothing = record { low = refl; distinct = tt; counted = λ e. refl; rows = 0; size = refl; fits = omega arith; bytes = refl }
