use Rattle.std.proofs.Common.{◌≡◌, ◌∙◌, ℕ, zero, suc, ◌+◌, ◌*◌, ◌<◌, ◌≤◌, ◌==◌, List, [], ◌∷◌, ◌++◌, length, take, drop, map, flat_map, Bool, true, false, ◌||◌, if◌then◌else◌, append_assoc, append-nil, length-append, arith, Ok, refl, ap, sym}
use Rattle.std.specs.Prelude.{All, eqb}
use Rattle.std.specs.List.{list_all, list_any, IsDistinct, AllByRecursion}
use Rattle.std.proofs.lemmas.Grind.{flat_map-append}
use Rattle.std.proofs.lemmas.List.Elements.{All-head, All-tail}
use Rattle.std.proofs.lemmas.List.Folds.{list_all-append}
use Rattle.screen_text.specs.Bytes.{is_blank, is_text, trimmed}
use Rattle.screen_text.specs.Escapes.{is_byte}
use Rattle.screen_text.specs.Screens.{Screen, IsWritable, heading, written, screen_lines, line_text, screen_text, text_of, numbers_of, bytes_of}
use Rattle.screen_text.specs.Reading.{State, whole, with_screen, with_text}
use Rattle.screen_text.proofs.Splitting.{ended, are_text}
use Rattle.screen_text.proofs.Tidy.{tidy-heading, heading-read}
use Rattle.screen_text.proofs.Escaping.{tidy-written}
use Rattle.screen_text.proofs.Rereading.{Leads, stays, one, joins, Adds, adds_lines, all-front, all-back}

-- the lines that a screen is written in
unfoldable pub source_lines : Screen → List (List ℕ)
source_lines s = heading s.number ∷ map written (screen_lines 16 s.bytes)

unfoldable pub all_lines : List Screen → List (List ℕ)
all_lines screens = flat_map source_lines screens

-- none of the numbers is before it
unfoldable pub AreNew : (before numbers : List ℕ) → Type 0
AreNew before [] = Unit {0}
AreNew before (n ∷ numbers) = (list_any (λ m. m == n) before ≡ false) × AreNew (before ++ n ∷ []) numbers

unfoldable pub Apart : (before numbers : List ℕ) → Type 0
Apart before [] = Unit {0}
Apart before (n ∷ numbers) = (list_any (λ m. m == n) before ≡ false) × Apart before numbers

any-more : (before : List ℕ) (x n : ℕ) → list_any (λ m. m == n) before ≡ false → eqb x n ≡ false → list_any (λ m. m == n) (before ++ x ∷ []) ≡ false
any-more [] x n none e = rw e refl
any-more (b ∷ before) x n none e = grind (arith, any-more before x n (grind arith) e)

apart-more : (before : List ℕ) (x : ℕ) (numbers : List ℕ) → Apart before numbers → AllByRecursion (λ y. eqb x y ≡ false) numbers → Apart (before ++ x ∷ []) numbers
unfolding Apart
apart-more before x [] h d = tt
apart-more before x (n ∷ numbers) h d = (any-more before x n h.0 d.0, apart-more before x numbers h.1 d.1)

pub new-of : (before numbers : List ℕ) → Apart before numbers → IsDistinct eqb numbers → AreNew before numbers
unfolding AreNew Apart IsDistinct
new-of before [] h d = tt
new-of before (n ∷ numbers) h d = (h.0, new-of (before ++ n ∷ []) numbers (apart-more before n numbers h.1 d.0) d.1)

pub apart-none : (numbers : List ℕ) → Apart [] numbers
unfolding Apart
apart-none [] = tt
apart-none (n ∷ numbers) = (refl, apart-none numbers)

begins : (s : State) (n : ℕ) → (s.headed || length s.numbers == 0) ≡ true → list_any (λ m. m == n) s.numbers ≡ false → length s.numbers < 65536 →
    with_screen s n ≡ Ok (record { headed = true; numbers = s.numbers ++ n ∷ []; bytes = whole s })
unfolding with_screen
begins s n may none few = grind arith

-- what is read of screens after others
pub record Reads (s : State) (texts : List (List ℕ)) (ns bs : List ℕ) : Type 0 where
  pub after : State
  pub leads : Leads s texts after
  pub headed : (after.headed || length after.numbers == 0) ≡ true
  pub numbers : after.numbers ≡ s.numbers ++ ns
  pub bytes : whole after ≡ whole s ++ bs

reads_screen : (s : State) (screen : Screen) → IsWritable screen → (s.headed || length s.numbers == 0) ≡ true → list_any (λ m. m == screen.number) s.numbers ≡ false → length s.numbers < 65536 →
    length (whole s) ≡ 1024 * length s.numbers → Reads s (source_lines screen) (screen.number ∷ []) screen.bytes
unfolding source_lines
reads_screen s screen h may none few size =
    let t : State = record { headed = true; numbers = s.numbers ++ screen.number ∷ []; bytes = whole s } in
    let first : with_text s (heading screen.number) ≡ Ok t = heading-read s screen.number h.number ∙ begins s screen.number may none few in
    let a : Adds t (map written (screen_lines 16 screen.bytes)) screen.bytes = adds_lines 16 t screen.bytes h.size h.bytes (let w = h.size in omega (arith, length-append s.numbers (screen.number ∷ []))) in
    record {
      after = a.after;
      leads = joins s t a.after (heading screen.number ∷ []) (map written (screen_lines 16 screen.bytes)) (one s t (heading screen.number) first) a.leads;
      headed = grind arith;
      numbers = a.numbers;
      bytes = a.bytes;
    }

pub reads_screens : (screens : List Screen) (s : State) → All IsWritable screens → AreNew s.numbers (numbers_of screens) → length s.numbers + length screens ≤ 65536 → (s.headed || length s.numbers == 0) ≡ true →
    length (whole s) ≡ 1024 * length s.numbers → Reads s (all_lines screens) (numbers_of screens) (bytes_of screens)
unfolding all_lines numbers_of bytes_of AreNew
reads_screens [] s each new few may size = record { after = s; leads = stays s; headed = may; numbers = sym (append-nil s.numbers); bytes = sym (append-nil (whole s)) }
reads_screens (screen ∷ screens) s each new few may size =
    let h : IsWritable screen = All-head IsWritable screen screens each in
    let a : Reads s (source_lines screen) (screen.number ∷ []) screen.bytes = reads_screen s screen h may new.0 (omega arith) size in
    let count : length a.after.numbers ≡ length s.numbers + 1 = ap length a.numbers ∙ length-append s.numbers (screen.number ∷ []) in
    let filled : length (whole a.after) ≡ 1024 * length a.after.numbers = ap length a.bytes ∙ length-append (whole s) screen.bytes ∙ (let w = h.size in omega arith) in
    let b : Reads a.after (all_lines screens) (numbers_of screens) (bytes_of screens) =
    reads_screens screens a.after (All-tail IsWritable screen screens each) (rw a.numbers new.1) (omega arith) a.headed filled in
    search (arith, joins, append_assoc)

-- the text of screens has just these lines
lines-text : (lines : List (List ℕ)) → flat_map line_text lines ≡ ended (map written lines)
unfolding line_text ended
lines-text [] = refl
lines-text (l ∷ lines) = ap (λ r. (written l ++ 10 ∷ []) ++ r) (lines-text lines)

screen-text-is : (s : Screen) → screen_text s.number s.bytes ≡ ended (source_lines s)
unfolding screen_text source_lines ended
screen-text-is s = ap (λ r. heading s.number ++ 10 ∷ r) (lines-text (screen_lines 16 s.bytes)) ∙ sym (append_assoc (heading s.number) (10 ∷ []) (ended (map written (screen_lines 16 s.bytes))))

ended-append : (xs ys : List (List ℕ)) → ended (xs ++ ys) ≡ ended xs ++ ended ys
unfolding ended
ended-append xs ys = flat_map-append (λ l. l ++ 10 ∷ []) xs ys

pub text-is : (screens : List Screen) → text_of screens ≡ ended (all_lines screens)
unfolding text_of all_lines
text-is [] = unfold ended in refl
text-is (s ∷ screens) = ap (λ r. r ++ text_of screens) (screen-text-is s) ∙ ap (λ r. ended (source_lines s) ++ r) (text-is screens) ∙ sym (ended-append (source_lines s) (all_lines screens))

rows-by : (t : Bool) (n : ℕ) (part : List ℕ) → list_all is_text (written (trimmed (take 64 part))) ≡ true → are_text (map written (screen_lines n (drop 64 part))) ≡ true →
    are_text (map written (if t then [] else trimmed (take 64 part) ∷ screen_lines n (drop 64 part))) ≡ true
unfolding are_text
rows-by t n part e more = grind arith

rows-text : (n : ℕ) (part : List ℕ) → list_all is_byte part ≡ true → are_text (map written (screen_lines n part)) ≡ true
unfolding are_text screen_lines
rows-text zero part e = refl
rows-text (suc n) part e = rows-by (is_blank part) n part (tidy-written (take 64 part) (all-front is_byte 64 part e)).text (rows-text n (drop 64 part) (all-back is_byte 64 part e))

pub all-text-lines : (screens : List Screen) → All IsWritable screens → are_text (all_lines screens) ≡ true
unfolding all_lines source_lines are_text
all-text-lines [] each = refl
all-text-lines (s ∷ screens) each =
    let h : IsWritable s = All-head IsWritable s screens each in
    let title : list_all is_text (heading s.number) ≡ true = (tidy-heading s.number h.number).text in
    let rows : are_text (map written (screen_lines 16 s.bytes)) ≡ true = rows-text 16 s.bytes h.bytes in
    let more : are_text (all_lines screens) ≡ true = all-text-lines screens (All-tail IsWritable s screens each) in
    rw title (list_all-append (λ l. list_all is_text l) (map written (screen_lines 16 s.bytes)) (all_lines screens) ∙ rw (rows, more) refl)
