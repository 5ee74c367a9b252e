-- What each word makes of a definition written in part.
use Rattle.std.proofs.Common.{◌≡◌, ◌≢◌, ℕ, zero, suc, ◌+◌, ◌<◌, ◌≤◌, List, [], ◌∷◌, ◌++◌, length, refl, ap, ◌∙◌, arith, length-append, ◌-◌, ◌/◌, ◌%◌, length-set, Some, sym, subst, append_assoc}
use Rattle.std.specs.Prelude.{slice_set, Bool}
use Rattle.std.proofs.lemmas.List.{set-set, set-append_left, set-append_right}
use Rattle.memory.specs.Bytes.{cell, put_byte, put_cell, put_bytes, cell_bytes}
use Rattle.memory.specs.declared.limit.TheConstants.{GREATEST_LIMIT}
use Rattle.memory.proofs.Puts.{put_bytes-append}
use Rattle.memory.proofs.Kept.{wrap_small, length_bytes, cell_here, byte_cell, byte_below, length_cell, cell_beside}
use Rattle.dictionary.specs.Laying.{laid_at}
use Rattle.compiling_words.specs.Laying.{laid}
use Rattle.memory.proofs.Same.{Stands}
use Rattle.memory.proofs.Stands.{lay, cell_below}
use Rattle.compiling_words.specs.Code.{runtime, control_code, literal_code, text_code}
use Rattle.colon_bodies.specs.Draft.{Patches, marks_of, Drafted}
use Rattle.colon_bodies.proofs.Cells.{patched, length-cell}
use Rattle.colon_bodies.specs.declared.words.Half.{Half}
use Rattle.colon_bodies.specs.declared.words.Half.TheVariants.{Free, Ticked, Forced, Compiling, Both}
use Rattle.colon_bodies.specs.Tokens.{Token, NAME, NUMBER, DOUBLE, TEXT, TICK, FORCE, COMPILE, IF, ELSE, THEN, BEGIN, UNTIL, AGAIN, WHILE, REPEAT, DO, LOOP, DOES, text_control, loop_control, laid_by}
use Rattle.colon_bodies.specs.Tree.{Body, Empty, Tick, Literal, Double, Text, IfThen, IfElse, Until, Again, While, Loop}
use Rattle.colon_bodies.specs.Code.{size, code}
use Rattle.colon_bodies.specs.Open.{Outer, Top, Past, InIf, InElse, InBegin, InWhile, InDo, At, complete, fit, read, outer_size, open_size, outer_code, open_code}
use Rattle.colon_bodies.proofs.Laying.{length-open, called, done, then_if, then_else, opened_if, opened_do, opened_begin, switched, tested, repeated, looped}
use Rattle.resident_bodies.specs.Drafts.{Kept, places, Draft}
use Rattle.resident_bodies.specs.Words.{ahead, laid_and_resolved, lays}
use Rattle.colon_bodies.specs.declared.draft.Mark.TheVariants as mark

-- Bytes that are written by two calls, and by one.

set_swap : (l : List ℕ) (i j a b : ℕ) → i ≢ j → slice_set (slice_set l i a) j b ≡ slice_set (slice_set l j b) i a
set_swap [] i j a b h = refl
set_swap (x ∷ l) zero zero a b h = absurd (h refl)
set_swap (x ∷ l) zero (suc j) a b h = refl
set_swap (x ∷ l) (suc i) zero a b h = refl
set_swap (x ∷ l) (suc i) (suc j) a b h = ap (λ k. x ∷ k) (set_swap l i j a b (λ e. h (ap suc e)))

-- a byte above DP, and DP
byte_past : (m : List ℕ) (x n y : ℕ) → 30 ≤ n → put_byte (put_cell m 28 x) n y ≡ put_cell (put_byte m n y) 28 x
unfolding put_cell put_byte
byte_past m x n y h = grind (arith, set_swap)

bytes_past : (m : List ℕ) (x n : ℕ) (bs : List ℕ) → 30 ≤ n → n + length bs < 65536 → put_bytes (put_cell m 28 x) n bs ≡ put_cell (put_bytes m n bs) 28 x
unfolding put_bytes
bytes_past m x n [] h l = refl
bytes_past m x n (b ∷ bs) h l =
    rw (wrap_small (n + 1) (omega arith)) (ap (λ k. put_bytes k (n + 1) bs) (byte_past m x n b h) ∙ bytes_past (put_byte m n b) x (n + 1) bs (omega arith) (omega arith))

-- DP twice
cell_twice : (m : List ℕ) (x y : ℕ) → put_cell (put_cell m 28 x) 28 y ≡ put_cell m 28 y
unfolding put_cell put_byte
cell_twice m x y = grind (arith, set_swap, set-set)

pub laid_twice : (m xs ys : List ℕ) → length m ≡ 65536 → 30 ≤ cell m 28 → cell m 28 + length xs + length ys ≤ GREATEST_LIMIT → laid (laid m xs) ys ≡ laid m (xs ++ ys)
unfolding laid_at
laid_twice m xs ys l a h = grind (arith, cell_here, length_bytes, length-append, bytes_past, cell_twice, put_bytes-append)

-- Bytes that lie at a place up to HERE, and what is written after them and written among them.

-- the bytes bs lie at a place, up to HERE, and below it memory is as before
pub record Lies (before : List ℕ) (at : ℕ) (bs m : List ℕ) : Type 0 where
  pub stands : Stands m at bs
  pub here : cell m 28 ≡ at + length bs
  pub kept : Kept at m before
  pub all : length m ≡ 65536

-- one cell of a list of bytes is another
abbrev pub with_cell : List ℕ → (place x : ℕ) → List ℕ
with_cell bs place x = slice_set (slice_set bs place (x % 256)) (place + 1) (x / 256)

pub patches : (bs : List ℕ) (place x : ℕ) → Patches bs (with_cell bs place x) place x
patches bs place x = λ front back y e n. patched bs front back x y place e n

-- one byte among those that are somewhere
set_within : (m bs : List ℕ) (at i place b : ℕ) → i ≡ at + place → place < length bs → Stands m at bs → Stands (put_byte m i b) at (slice_set bs place b)
unfolding put_byte
set_within m bs at i place b e h s =
    let p = s.place in
    let k : i - at ≡ place = omega arith in
    record {
      before = s.before;
      after = s.after;
      is = ap (λ l. slice_set l i b) s.is ∙ set-append_right s.before (bs ++ s.after) at i b p (omega arith) ∙ ap (λ n. s.before ++ slice_set (bs ++ s.after) n b) k ∙ ap (λ l. s.before ++ l) (set-append_left bs s.after place b h);
      place = p;
    }

stands_cell : (m bs : List ℕ) (at i place x : ℕ) → i ≡ at + place → place + 1 < length bs → i + 1 < 65536 → Stands m at bs → Stands (put_cell m i x) at (with_cell bs place x)
unfolding put_cell
stands_cell m bs at i place x e h l s = grind (arith, set_within, wrap_small, length-set)

pub length-with : (bs : List ℕ) (place x : ℕ) → length (with_cell bs place x) ≡ length bs
length-with bs place x = length-set (slice_set bs place (x % 256)) (place + 1) (x / 256) ∙ length-set bs place (x % 256)

-- bytes are written
pub lies_laid : (before : List ℕ) (at : ℕ) (bs cs m : List ℕ) → 256 ≤ at → at + length bs + length cs ≤ GREATEST_LIMIT → Lies before at bs m → Lies before at (bs ++ cs) (laid m cs)
unfolding laid_at
lies_laid before at bs cs m l r g = grind (arith, length-append, cell_below, lay, cell_here, length_bytes, byte_cell, byte_below, length_cell)

-- a cell among them is written over
pub lies_patched : (before : List ℕ) (at : ℕ) (bs m : List ℕ) (i place x : ℕ) → 256 ≤ at → at + length bs ≤ GREATEST_LIMIT → i ≡ at + place → place + 1 < length bs → Lies before at bs m → Lies before at (with_cell bs place x) (put_cell m i x)
lies_patched before at bs m i place x l r e h g = grind (arith, stands_cell, cell_beside, length-with, byte_cell, length_cell)

-- a control primitive is that of the memory before
pub control_kept : (before : List ℕ) (at : ℕ) (bs m : List ℕ) (k : ℕ) → 256 ≤ at → k < 32 → Lies before at bs m → runtime m k ≡ runtime before k
unfolding cell
control_kept before at bs m k l h g = grind arith

-- What each word makes of a definition written in part.

-- the words that were read lie somewhere
abbrev pub Open : List ℕ → ℕ → Outer → Body → Half → List ℕ → Type 0
Open before at o t h m = Lies before at (open_code (runtime before) o t h at) m

pub opens : (before : List ℕ) (at : ℕ) (o : Outer) (t : Body) (h : Half) (m d below : List ℕ) → Draft before at o t h m d below → Open before at o t h m
opens before at o t h m d below g = record { stands = g.stands; here = g.here ∙ ap (λ n. at + n) (sym (length-open (runtime before) o t h at)); kept = g.kept; all = g.all }

drafts : (before : List ℕ) (at : ℕ) (o : Outer) (t : Body) (h : Half) (bs m d below : List ℕ) → bs ≡ open_code (runtime before) o t h at → d ≡ places at o ++ below → Lies before at bs m → Draft before at o t h m d below
drafts before at o t h bs m d below e s g = grind (arith, length-open)

drafted : (before : List ℕ) (at : ℕ) (o : Outer) (t : Body) (h : Half) → Drafted (runtime before) at o t h (open_code (runtime before) o t h at) (marks_of at o)
drafted before at o t h = record { bytes = refl; marked = refl }

length-open_code : (before : List ℕ) (at : ℕ) (o : Outer) (t : Body) (h : Half) → length (open_code (runtime before) o t h at) ≡ open_size o t h
length-open_code before at o t h = length-open (runtime before) o t h at

pub length-two : (x y : ℕ) → length (cell_bytes x ++ cell_bytes y) ≡ 4
length-two x y = length-append (cell_bytes x) (cell_bytes y) ∙ omega (arith, length-cell x, length-cell y)

-- a control primitive and a cell are written
lies_control : (before : List ℕ) (at : ℕ) (o : Outer) (t : Body) (h : Half) (m : List ℕ) (k x : ℕ) → 256 ≤ at → at + open_size o t h + 4 ≤ GREATEST_LIMIT → Open before at o t h m → Lies before at (open_code (runtime before) o t h at ++ (cell_bytes (runtime m k) ++ cell_bytes x)) (laid m (control_code m k x))
lies_control before at o t h m k x l r g = search (arith, lies_laid, length-open_code, length-two)

-- a cell is written
lies_cell : (before : List ℕ) (at : ℕ) (o : Outer) (t : Body) (h : Half) (m : List ℕ) (x : ℕ) → 256 ≤ at → at + open_size o t h + 2 ≤ GREATEST_LIMIT → Open before at o t h m → Lies before at (open_code (runtime before) o t h at ++ cell_bytes x) (laid m (cell_bytes x))
lies_cell before at o t h m x l r g = search (arith, lies_laid, length-open_code, length-cell)

-- names, numbers and texts
pub name_word : (before : List ℕ) (at : ℕ) (o : Outer) (t : Body) (h : Half) (m below : List ℕ) (w : ℕ) → 256 ≤ at → at + open_size o t h + 2 ≤ GREATEST_LIMIT → Open before at o t h m → Draft before at o (complete h t w) Free (laid m (cell_bytes w)) (places at o ++ below) below
name_word before at o t h m below w l r g =
    let bs = open_code (runtime before) o t h at in
    let e = called (runtime before) at o t h w bs (bs ++ cell_bytes w) (marks_of at o) refl (drafted before at o t h) in
    drafts before at o (complete h t w) Free (bs ++ cell_bytes w) (laid m (cell_bytes w)) (places at o ++ below) below e.bytes refl (lies_cell before at o t h m w l r g)

number_word : (before : List ℕ) (at : ℕ) (o : Outer) (t : Body) (m below : List ℕ) (n : ℕ) → 256 ≤ at → at + open_size o t Free + 4 ≤ GREATEST_LIMIT → Open before at o t Free m → Draft before at o (Literal t n) Free (laid m (literal_code m n)) (places at o ++ below) below
number_word before at o t m below n l r g =
    let rt = runtime before in
    let bs = open_code rt o t Free at in
    let A = outer_code rt o at in
    let C = code rt t (at + outer_size o) in
    let c = control_kept before at bs m 6 l (omega arith) g in
    let e : bs ++ (cell_bytes (runtime m 6) ++ cell_bytes n) ≡ open_code rt o (Literal t n) Free at = append_assoc A C (cell_bytes (runtime m 6) ++ cell_bytes n) ∙ ap (λ v. A ++ (C ++ (cell_bytes v ++ cell_bytes n))) c in
    drafts before at o (Literal t n) Free (bs ++ (cell_bytes (runtime m 6) ++ cell_bytes n)) (laid m (literal_code m n)) (places at o ++ below) below e refl (lies_control before at o t Free m 6 n l r g)

double_word : (before : List ℕ) (at : ℕ) (o : Outer) (t : Body) (m below : List ℕ) (n : ℕ) → 256 ≤ at → at + open_size o t Free + 8 ≤ GREATEST_LIMIT → Open before at o t Free m → Draft before at o (Double t n) Free (laid m (literal_code m (n % 65536) ++ literal_code m (n / 65536))) (places at o ++ below) below
double_word before at o t m below n l r g =
    let rt = runtime before in
    let bs = open_code rt o t Free at in
    let A = outer_code rt o at in
    let C = code rt t (at + outer_size o) in
    let c = control_kept before at bs m 6 l (omega arith) g in
    let lo = n % 65536 in
    let hi = n / 65536 in
    let x = runtime m 6 in
    let cs = (cell_bytes x ++ cell_bytes lo) ++ (cell_bytes x ++ cell_bytes hi) in
    let k : length cs ≡ 8 = omega (arith, length-append (cell_bytes x ++ cell_bytes lo) (cell_bytes x ++ cell_bytes hi), length-two x lo, length-two x hi) in
    let flat : bs ++ cs ≡ A ++ (C ++ (cell_bytes x ++ (cell_bytes lo ++ (cell_bytes x ++ cell_bytes hi)))) = simp append_assoc in
    let e : bs ++ cs ≡ open_code rt o (Double t n) Free at = flat ∙ ap (λ v. A ++ (C ++ (cell_bytes v ++ (cell_bytes lo ++ (cell_bytes v ++ cell_bytes hi))))) c in
    drafts before at o (Double t n) Free (bs ++ cs) (laid m cs) (places at o ++ below) below e refl
    (lies_laid before at bs cs m l (omega (arith, length-open_code before at o t Free, k)) g)

text_small : (k : Bool) → text_control k < 32
text_small k = grind arith

text_word : (before : List ℕ) (at : ℕ) (o : Outer) (t : Body) (m below : List ℕ) (k : Bool) (ts : List ℕ) → 256 ≤ at → at + open_size o t Free + (3 + length ts) ≤ GREATEST_LIMIT → Open before at o t Free m → Draft before at o (Text t k ts) Free (laid m (text_code (runtime m (text_control k)) ts)) (places at o ++ below) below
unfolding text_code
text_word before at o t m below k ts l r g =
    let rt = runtime before in
    let bs = open_code rt o t Free at in
    let A = outer_code rt o at in
    let C = code rt t (at + outer_size o) in
    let x = runtime m (text_control k) in
    let c = control_kept before at bs m (text_control k) l (text_small k) g in
    let cs = cell_bytes x ++ (length ts ∷ ts) in
    let n : length cs ≡ 3 + length ts = length-append (cell_bytes x) (length ts ∷ ts) ∙ omega (arith, length-cell x) in
    let e : bs ++ cs ≡ open_code rt o (Text t k ts) Free at = append_assoc A C cs ∙ ap (λ v. A ++ (C ++ (cell_bytes v ++ (length ts ∷ ts)))) c in
    drafts before at o (Text t k ts) Free (bs ++ cs) (laid m cs) (places at o ++ below) below e refl
    (lies_laid before at bs cs m l (omega (arith, length-open_code before at o t Free, n)) g)

-- what is half read
tick_word : (before : List ℕ) (at : ℕ) (o : Outer) (t : Body) (m below : List ℕ) → 256 ≤ at → at + open_size o t Free + 2 ≤ GREATEST_LIMIT → Open before at o t Free m → Draft before at o t Ticked (laid m (cell_bytes (runtime m 6))) (places at o ++ below) below
tick_word before at o t m below l r g =
    let bs = open_code (runtime before) o t Free at in
    let c = control_kept before at bs m 6 l (omega arith) g in
    drafts before at o t Ticked (bs ++ cell_bytes (runtime m 6)) (laid m (cell_bytes (runtime m 6))) (places at o ++ below) below (ap (λ v. bs ++ cell_bytes v) c) refl (lies_cell before at o t Free m (runtime m 6) l r g)

compile_word : (before : List ℕ) (at : ℕ) (o : Outer) (t : Body) (m below : List ℕ) → 256 ≤ at → at + open_size o t Free + 2 ≤ GREATEST_LIMIT → Open before at o t Free m → Draft before at o t Compiling (laid m (cell_bytes (runtime m 19))) (places at o ++ below) below
compile_word before at o t m below l r g =
    let bs = open_code (runtime before) o t Free at in
    let c = control_kept before at bs m 19 l (omega arith) g in
    drafts before at o t Compiling (bs ++ cell_bytes (runtime m 19)) (laid m (cell_bytes (runtime m 19))) (places at o ++ below) below (ap (λ v. bs ++ cell_bytes v) c) refl (lies_cell before at o t Free m (runtime m 19) l r g)

-- DOES>
does_word : (before : List ℕ) (at : ℕ) (t : Body) (m below : List ℕ) → 256 ≤ at → at + open_size Top t Free + 2 ≤ GREATEST_LIMIT → Open before at Top t Free m → Draft before at (Past t) Empty Free (laid m (cell_bytes (runtime m 18))) below below
does_word before at t m below l r g =
    let rt = runtime before in
    let bs = open_code rt Top t Free at in
    let c = control_kept before at bs m 18 l (omega arith) g in
    let e = done rt at t bs (bs ++ cell_bytes (runtime m 18)) [] (runtime m 18) (sym c) refl (drafted before at Top t Free) in
    drafts before at (Past t) Empty Free (bs ++ cell_bytes (runtime m 18)) (laid m (cell_bytes (runtime m 18))) below below e.bytes refl (lies_cell before at Top t Free m (runtime m 18) l r g)

-- IF, DO and BEGIN
if_word : (before : List ℕ) (at : ℕ) (o : Outer) (t : Body) (m below : List ℕ) → 256 ≤ at → at + open_size o t Free + 4 ≤ GREATEST_LIMIT → Open before at o t Free m → Draft before at (InIf o t) Empty Free (laid m (control_code m 8 0)) (ahead m 2 ∷ (places at o ++ below)) below
if_word before at o t m below l r g =
    let rt = runtime before in
    let bs = open_code rt o t Free at in
    let x = runtime m 8 in
    let c = control_kept before at bs m 8 l (omega arith) g in
    let one = bs ++ cell_bytes x in
    let e = opened_if rt at o t bs one (one ++ cell_bytes 0) (marks_of at o) (marks_of at o ++ mark.If (length one) ∷ []) x (length one) (sym c) refl refl refl refl (drafted before at o t Free) in
    let a : ahead m 2 ≡ at + (outer_size o + size t + 2) = let h = g.here in omega (arith, length-open_code before at o t Free) in
    drafts before at (InIf o t) Empty Free (bs ++ (cell_bytes x ++ cell_bytes 0)) (laid m (control_code m 8 0)) (ahead m 2 ∷ (places at o ++ below)) below
    (sym (append_assoc bs (cell_bytes x) (cell_bytes 0)) ∙ e.bytes) (ap (λ v. v ∷ (places at o ++ below)) a) (lies_control before at o t Free m 8 0 l r g)

do_word : (before : List ℕ) (at : ℕ) (o : Outer) (t : Body) (m below : List ℕ) → 256 ≤ at → at + open_size o t Free + 4 ≤ GREATEST_LIMIT → Open before at o t Free m → Draft before at (InDo o t) Empty Free (laid m (control_code m 9 0)) (ahead m 4 ∷ ahead m 2 ∷ (places at o ++ below)) below
do_word before at o t m below l r g =
    let rt = runtime before in
    let bs = open_code rt o t Free at in
    let x = runtime m 9 in
    let c = control_kept before at bs m 9 l (omega arith) g in
    let one = bs ++ cell_bytes x in
    let e = opened_do rt at o t bs one (one ++ cell_bytes 0) (marks_of at o) (marks_of at o ++ mark.Do (length one) ∷ []) x (length one) (sym c) refl refl refl refl (drafted before at o t Free) in
    let a : ahead m 2 ≡ at + (outer_size o + size t + 2) = let h = g.here in omega (arith, length-open_code before at o t Free) in
    let b : ahead m 4 ≡ at + (outer_size o + size t + 4) = let h = g.here in omega (arith, length-open_code before at o t Free) in
    drafts before at (InDo o t) Empty Free (bs ++ (cell_bytes x ++ cell_bytes 0)) (laid m (control_code m 9 0)) (ahead m 4 ∷ ahead m 2 ∷ (places at o ++ below)) below
    (sym (append_assoc bs (cell_bytes x) (cell_bytes 0)) ∙ e.bytes) (ap (λ v. v ∷ ahead m 2 ∷ (places at o ++ below)) b ∙ ap (λ v. (at + (outer_size o + size t + 4)) ∷ v ∷ (places at o ++ below)) a) (lies_control before at o t Free m 9 0 l r g)

begin_word : (before : List ℕ) (at : ℕ) (o : Outer) (t : Body) (m below : List ℕ) → Open before at o t Free m → Draft before at (InBegin o t) Empty Free m (cell m 28 ∷ (places at o ++ below)) below
begin_word before at o t m below g =
    let rt = runtime before in
    let bs = open_code rt o t Free at in
    let e = opened_begin rt at o t bs (marks_of at o) (marks_of at o ++ mark.Begin (cell m 28) ∷ []) (cell m 28) g.here refl (drafted before at o t Free) in
    let a : cell m 28 ≡ at + (outer_size o + size t) = let h = g.here in omega (arith, length-open_code before at o t Free) in
    drafts before at (InBegin o t) Empty Free bs m (cell m 28 ∷ (places at o ++ below)) below e.bytes (ap (λ v. v ∷ (places at o ++ below)) a) g

-- jumps back
back : (rt : ℕ → ℕ) (o : Outer) (t a : Body) (at k : ℕ) → open_code rt (InBegin o t) a Free at ++ (cell_bytes k ++ cell_bytes (at + (outer_size o + size t)))
    ≡ outer_code rt o at ++ (code rt t (at + outer_size o) ++ (code rt a (at + outer_size o + size t) ++ (cell_bytes k ++ cell_bytes (at + outer_size o + size t))))
back rt o t a at k = grind (arith, append_assoc)

until_word : (before : List ℕ) (at : ℕ) (o : Outer) (t a : Body) (m below : List ℕ) → 256 ≤ at → at + open_size (InBegin o t) a Free + 4 ≤ GREATEST_LIMIT → Open before at (InBegin o t) a Free m → Draft before at o (Until t a) Free (laid m (control_code m 8 (at + (outer_size o + size t)))) (places at o ++ below) below
until_word before at o t a m below l r g =
    let rt = runtime before in
    let bs = open_code rt (InBegin o t) a Free at in
    let y = at + (outer_size o + size t) in
    let c = control_kept before at bs m 8 l (omega arith) g in
    drafts before at o (Until t a) Free (bs ++ (cell_bytes (runtime m 8) ++ cell_bytes y)) (laid m (control_code m 8 y)) (places at o ++ below) below
    (ap (λ v. bs ++ (cell_bytes v ++ cell_bytes y)) c ∙ back rt o t a at (rt 8)) refl (lies_control before at (InBegin o t) a Free m 8 y l r g)

again_word : (before : List ℕ) (at : ℕ) (o : Outer) (t a : Body) (m below : List ℕ) → 256 ≤ at → at + open_size (InBegin o t) a Free + 4 ≤ GREATEST_LIMIT → Open before at (InBegin o t) a Free m → Draft before at o (Again t a) Free (laid m (control_code m 7 (at + (outer_size o + size t)))) (places at o ++ below) below
again_word before at o t a m below l r g =
    let rt = runtime before in
    let bs = open_code rt (InBegin o t) a Free at in
    let y = at + (outer_size o + size t) in
    let c = control_kept before at bs m 7 l (omega arith) g in
    drafts before at o (Again t a) Free (bs ++ (cell_bytes (runtime m 7) ++ cell_bytes y)) (laid m (control_code m 7 y)) (places at o ++ below) below
    (ap (λ v. bs ++ (cell_bytes v ++ cell_bytes y)) c ∙ back rt o t a at (rt 7)) refl (lies_control before at (InBegin o t) a Free m 7 y l r g)

while_word : (before : List ℕ) (at : ℕ) (o : Outer) (t a : Body) (m below : List ℕ) → 256 ≤ at → at + open_size (InBegin o t) a Free + 4 ≤ GREATEST_LIMIT → Open before at (InBegin o t) a Free m
    → Draft before at (InWhile o t a) Empty Free (laid m (control_code m 8 0)) (ahead m 2 ∷ (at + (outer_size o + size t)) ∷ (places at o ++ below)) below
while_word before at o t a m below l r g =
    let rt = runtime before in
    let bs = open_code rt (InBegin o t) a Free at in
    let x = runtime m 8 in
    let y = at + (outer_size o + size t) in
    let c = control_kept before at bs m 8 l (omega arith) g in
    let one = bs ++ cell_bytes x in
    let e = tested rt at (InBegin o t) a bs one (one ++ cell_bytes 0) (marks_of at (InBegin o t)) (marks_of at o) (marks_of at o ++ mark.While y (length one) ∷ []) y (length one) x (sym c) refl refl refl refl refl refl (drafted before at (InBegin o t) a Free) in
    let z : ahead m 2 ≡ at + (outer_size o + size t + size a + 2) = let h = g.here in omega (arith, length-open_code before at (InBegin o t) a Free) in
    drafts before at (InWhile o t a) Empty Free (bs ++ (cell_bytes x ++ cell_bytes 0)) (laid m (control_code m 8 0)) (ahead m 2 ∷ y ∷ (places at o ++ below)) below
    (sym (append_assoc bs (cell_bytes x) (cell_bytes 0)) ∙ e.bytes) (ap (λ v. v ∷ y ∷ (places at o ++ below)) z) (lies_control before at (InBegin o t) a Free m 8 0 l r g)

-- places that were left open
then_word : (before : List ℕ) (at : ℕ) (o : Outer) (t a : Body) (m below : List ℕ) → 256 ≤ at → at + open_size (InIf o t) a Free ≤ GREATEST_LIMIT → Open before at (InIf o t) a Free m → Draft before at o (IfThen t a) Free (put_cell m (at + (outer_size o + size t + 2)) (cell m 28)) (places at o ++ below) below
then_word before at o t a m below l r g =
    let rt = runtime before in
    let bs = open_code rt (InIf o t) a Free at in
    let n = length-open_code before at (InIf o t) a Free in
    let p = outer_size o + size t + 2 in
    let x = cell m 28 in
    let e = then_if rt at (InIf o t) a bs (with_cell bs p x) (marks_of at (InIf o t)) (marks_of at o) p x refl refl g.here (drafted before at (InIf o t) a Free) (patches bs p x) in
    drafts before at o (IfThen t a) Free (with_cell bs p x) (put_cell m (at + p) x) (places at o ++ below) below e.bytes refl
    (lies_patched before at bs m (at + p) p x l (omega (arith, n)) refl (omega (arith, n)) g)

then_else_word : (before : List ℕ) (at : ℕ) (o : Outer) (t a b : Body) (m below : List ℕ) → 256 ≤ at → at + open_size (InElse o t a) b Free ≤ GREATEST_LIMIT → Open before at (InElse o t a) b Free m → Draft before at o (IfElse t a b) Free (put_cell m (at + (outer_size o + size t + (4 + size a) + 2)) (cell m 28)) (places at o ++ below) below
then_else_word before at o t a b m below l r g =
    let rt = runtime before in
    let bs = open_code rt (InElse o t a) b Free at in
    let n = length-open_code before at (InElse o t a) b Free in
    let p = outer_size o + size t + (4 + size a) + 2 in
    let x = cell m 28 in
    let e = then_else rt at (InElse o t a) b bs (with_cell bs p x) (marks_of at (InElse o t a)) (marks_of at o) p x refl refl g.here (drafted before at (InElse o t a) b Free) (patches bs p x) in
    drafts before at o (IfElse t a b) Free (with_cell bs p x) (put_cell m (at + p) x) (places at o ++ below) below e.bytes refl
    (lies_patched before at bs m (at + p) p x l (omega (arith, n)) refl (omega (arith, n)) g)

-- a control primitive and a cell are written, and then a place that was left open gets HERE
two_cells : (before : List ℕ) (at : ℕ) (o : Outer) (t : Body) (m : List ℕ) (k x : ℕ) → 256 ≤ at → at + open_size o t Free + 4 ≤ GREATEST_LIMIT → Open before at o t Free m → Lies before at ((open_code (runtime before) o t Free at ++ cell_bytes (runtime m k)) ++ cell_bytes x) (laid m (control_code m k x))
two_cells before at o t m k x l r g =
    let bs = open_code (runtime before) o t Free at in
    subst (λ s. Lies before at s (laid m (control_code m k x))) (sym (append_assoc bs (cell_bytes (runtime m k)) (cell_bytes x))) (lies_control before at o t Free m k x l r g)

length-both : (bs : List ℕ) (x y : ℕ) → length ((bs ++ cell_bytes x) ++ cell_bytes y) ≡ length bs + 4
length-both bs x y = omega (arith, length-append (bs ++ cell_bytes x) (cell_bytes y), length-append bs (cell_bytes x), length-cell x, length-cell y)

behind : (before : List ℕ) (at : ℕ) (o : Outer) (t : Body) (m : List ℕ) (k x : ℕ) → at + open_size o t Free + 4 ≤ GREATEST_LIMIT → Open before at o t Free m → ahead m (length (control_code m k x)) ≡ at + length ((open_code (runtime before) o t Free at ++ cell_bytes (runtime m k)) ++ cell_bytes x)
behind before at o t m k x r g = omega (arith, length-two, length-both, length-open_code)

else_word : (before : List ℕ) (at : ℕ) (o : Outer) (t a : Body) (m below : List ℕ) → 256 ≤ at → at + open_size (InIf o t) a Free + 4 ≤ GREATEST_LIMIT → Open before at (InIf o t) a Free m
    → Draft before at (InElse o t a) Empty Free (laid_and_resolved m (control_code m 7 0) (at + (outer_size o + size t + 2))) (ahead m 2 ∷ (places at o ++ below)) below
else_word before at o t a m below l r g =
    let rt = runtime before in
    let bs = open_code rt (InIf o t) a Free at in
    let n = length-open_code before at (InIf o t) a Free in
    let c = runtime m 7 in
    let q = control_kept before at bs m 7 l (omega arith) g in
    let p = outer_size o + size t + 2 in
    let x = ahead m (length (control_code m 7 0)) in
    let one = bs ++ cell_bytes c in
    let two = one ++ cell_bytes 0 in
    let k = length-both bs c 0 in
    let e = switched rt at (InIf o t) a bs one two (with_cell two p x) (marks_of at (InIf o t)) (marks_of at o) (marks_of at o ++ mark.Else (length one) ∷ []) p (length one) c x (sym q) refl refl refl refl refl refl (behind before at (InIf o t) a m 7 0 r g) (drafted before at (InIf o t) a Free) (patches two p x) in
    let z : ahead m 2 ≡ at + (outer_size o + size t + (4 + size a) + 2) = let h = g.here in omega (arith, n) in
    drafts before at (InElse o t a) Empty Free (with_cell two p x) (laid_and_resolved m (control_code m 7 0) (at + p)) (ahead m 2 ∷ (places at o ++ below)) below e.bytes (ap (λ v. v ∷ (places at o ++ below)) z)
    (lies_patched before at two (laid m (control_code m 7 0)) (at + p) p x l (omega (arith, n, k)) refl (omega (arith, n, k)) (two_cells before at (InIf o t) a m 7 0 l r g))

repeat_word : (before : List ℕ) (at : ℕ) (o : Outer) (t a b : Body) (m below : List ℕ) → 256 ≤ at → at + open_size (InWhile o t a) b Free + 4 ≤ GREATEST_LIMIT → Open before at (InWhile o t a) b Free m
    → Draft before at o (While t a b) Free (laid_and_resolved m (control_code m 7 (at + (outer_size o + size t))) (at + (outer_size o + size t + size a + 2))) (places at o ++ below) below
repeat_word before at o t a b m below l r g =
    let rt = runtime before in
    let bs = open_code rt (InWhile o t a) b Free at in
    let n = length-open_code before at (InWhile o t a) b Free in
    let c = runtime m 7 in
    let q = control_kept before at bs m 7 l (omega arith) g in
    let y = at + (outer_size o + size t) in
    let p = outer_size o + size t + size a + 2 in
    let x = ahead m (length (control_code m 7 y)) in
    let one = bs ++ cell_bytes c in
    let two = one ++ cell_bytes y in
    let k = length-both bs c y in
    let e = repeated rt at (InWhile o t a) b bs one two (with_cell two p x) (marks_of at (InWhile o t a)) (marks_of at o) y p c x (sym q) refl refl refl refl (behind before at (InWhile o t a) b m 7 y r g) (drafted before at (InWhile o t a) b Free) (patches two p x) in
    drafts before at o (While t a b) Free (with_cell two p x) (laid_and_resolved m (control_code m 7 y) (at + p)) (places at o ++ below) below e.bytes refl
    (lies_patched before at two (laid m (control_code m 7 y)) (at + p) p x l (omega (arith, n, k)) refl (omega (arith, n, k)) (two_cells before at (InWhile o t a) b m 7 y l r g))

loop_small : (k : Bool) → loop_control k < 32
loop_small k = grind arith

loop_word : (before : List ℕ) (at : ℕ) (o : Outer) (t a : Body) (m below : List ℕ) (k : Bool) → 256 ≤ at → at + open_size (InDo o t) a Free + 4 ≤ GREATEST_LIMIT → Open before at (InDo o t) a Free m
    → Draft before at o (Loop t a k) Free (laid_and_resolved m (control_code m (loop_control k) (at + (outer_size o + size t + 4))) (at + (outer_size o + size t + 2))) (places at o ++ below) below
loop_word before at o t a m below k l r g =
    let rt = runtime before in
    let bs = open_code rt (InDo o t) a Free at in
    let n = length-open_code before at (InDo o t) a Free in
    let c = runtime m (loop_control k) in
    let q = control_kept before at bs m (loop_control k) l (loop_small k) g in
    let y = at + (outer_size o + size t + 4) in
    let p = outer_size o + size t + 2 in
    let x = ahead m (length (control_code m (loop_control k) y)) in
    let one = bs ++ cell_bytes c in
    let two = one ++ cell_bytes y in
    let j = length-both bs c y in
    let e = looped rt k at (InDo o t) a bs one two (with_cell two p x) (marks_of at (InDo o t)) (marks_of at o) y p c x (sym q) refl refl (omega arith) refl refl (behind before at (InDo o t) a m (loop_control k) y r g) (drafted before at (InDo o t) a Free) (patches two p x) in
    drafts before at o (Loop t a k) Free (with_cell two p x) (laid_and_resolved m (control_code m (loop_control k) y) (at + p)) (places at o ++ below) below e.bytes refl
    (lies_patched before at two (laid m (control_code m (loop_control k) y)) (at + p) p x l (omega (arith, n, j)) refl (omega (arith, n, j)) (two_cells before at (InDo o t) a m (loop_control k) y l r g))

-- each word that fits
same_state : (P : Outer → Body → Half → Type 0) (o p : Outer) (t u : Body) (h k : Half) → Some (At o t h) ≡ Some (At p u k) → P o t h → P p u k
same_state P o p t u h k e x = grind arith

abbrev Behind : List ℕ → ℕ → Token → List ℕ → List ℕ → List ℕ → Outer → Body → Half → Type 0
Behind before at w m d below p u k = Draft before at p u k (lays w m d).0 (lays w m d).1 below

forced : (before : List ℕ) (at : ℕ) (o : Outer) (t : Body) (m below : List ℕ) → Open before at o t Free m → Draft before at o t Forced m (places at o ++ below) below
forced before at o t m below g = drafts before at o t Forced (open_code (runtime before) o t Free at) m (places at o ++ below) below refl refl g

both : (before : List ℕ) (at : ℕ) (o : Outer) (t : Body) (m below : List ℕ) → Open before at o t Compiling m → Draft before at o t Both m (places at o ++ below) below
both before at o t m below g = drafts before at o t Both (open_code (runtime before) o t Compiling at) m (places at o ++ below) below refl refl g

fit_word : (before : List ℕ) (at : ℕ) (o p : Outer) (t u : Body) (k : Half) (w : Token) (m below : List ℕ) → 256 ≤ at → at + open_size o t Free + laid_by w ≤ GREATEST_LIMIT → fit o t w ≡ Some (At p u k) → Open before at o t Free m → Behind before at w m (places at o ++ below) below p u k
fit_word before at o p t u k FORCE m below l r e g = same_state (Behind before at FORCE m (places at o ++ below) below) o p t u Forced k e (forced before at o t m below g)
fit_word before at o p t u k TICK m below l r e g = same_state (Behind before at TICK m (places at o ++ below) below) o p t u Ticked k e (tick_word before at o t m below l r g)
fit_word before at o p t u k COMPILE m below l r e g = same_state (Behind before at COMPILE m (places at o ++ below) below) o p t u Compiling k e (compile_word before at o t m below l r g)
fit_word before at o p t u k (NUMBER n) m below l r e g = same_state (Behind before at (NUMBER n) m (places at o ++ below) below) o p (Literal t n) u Free k e (number_word before at o t m below n l r g)
fit_word before at o p t u k (DOUBLE n) m below l r e g = same_state (Behind before at (DOUBLE n) m (places at o ++ below) below) o p (Double t n) u Free k e (double_word before at o t m below n l r g)
fit_word before at o p t u k (TEXT b ts) m below l r e g = same_state (Behind before at (TEXT b ts) m (places at o ++ below) below) o p (Text t b ts) u Free k e (text_word before at o t m below b ts l r g)
fit_word before at o p t u k IF m below l r e g = same_state (Behind before at IF m (places at o ++ below) below) (InIf o t) p Empty u Free k e (if_word before at o t m below l r g)
fit_word before at o p t u k BEGIN m below l r e g = same_state (Behind before at BEGIN m (places at o ++ below) below) (InBegin o t) p Empty u Free k e (begin_word before at o t m below g)
fit_word before at o p t u k DO m below l r e g = same_state (Behind before at DO m (places at o ++ below) below) (InDo o t) p Empty u Free k e (do_word before at o t m below l r g)
fit_word before at Top p t u k DOES m below l r e g = same_state (Behind before at DOES m below below) (Past t) p Empty u Free k e (does_word before at t m below l r g)
fit_word before at (InIf o t) p a u k THEN m below l r e g = same_state (Behind before at THEN m (places at (InIf o t) ++ below) below) o p (IfThen t a) u Free k e (then_word before at o t a m below l (omega arith) g)
fit_word before at (InIf o t) p a u k ELSE m below l r e g = same_state (Behind before at ELSE m (places at (InIf o t) ++ below) below) (InElse o t a) p Empty u Free k e (else_word before at o t a m below l r g)
fit_word before at (InElse o t a) p b u k THEN m below l r e g = same_state (Behind before at THEN m (places at (InElse o t a) ++ below) below) o p (IfElse t a b) u Free k e (then_else_word before at o t a b m below l (omega arith) g)
fit_word before at (InBegin o t) p a u k UNTIL m below l r e g = same_state (Behind before at UNTIL m (places at (InBegin o t) ++ below) below) o p (Until t a) u Free k e (until_word before at o t a m below l r g)
fit_word before at (InBegin o t) p a u k AGAIN m below l r e g = same_state (Behind before at AGAIN m (places at (InBegin o t) ++ below) below) o p (Again t a) u Free k e (again_word before at o t a m below l r g)
fit_word before at (InBegin o t) p a u k WHILE m below l r e g = same_state (Behind before at WHILE m (places at (InBegin o t) ++ below) below) (InWhile o t a) p Empty u Free k e (while_word before at o t a m below l r g)
fit_word before at (InWhile o t a) p b u k REPEAT m below l r e g = same_state (Behind before at REPEAT m (places at (InWhile o t a) ++ below) below) o p (While t a b) u Free k e (repeat_word before at o t a b m below l r g)
fit_word before at (InDo o t) p a u k (LOOP x) m below l r e g = same_state (Behind before at (LOOP x) m (places at (InDo o t) ++ below) below) o p (Loop t a x) u Free k e (loop_word before at o t a m below x l r g)
fit_word before at _ p t u k _ m below l r e g = cc

read_word : (before : List ℕ) (at : ℕ) (o p : Outer) (t u : Body) (h k : Half) (w : Token) (m below : List ℕ) → 256 ≤ at → at + open_size o t h + laid_by w ≤ GREATEST_LIMIT → read o t h w ≡ Some (At p u k) → Open before at o t h m → Behind before at w m (places at o ++ below) below p u k
read_word before at o p t u h k (NAME w) m below l r e g = same_state (Behind before at (NAME w) m (places at o ++ below) below) o p (complete h t w) u Free k e (name_word before at o t h m below w l r g)
read_word before at o p t u Free k w m below l r e g = fit_word before at o p t u k w m below l r e g
read_word before at o p t u Compiling k FORCE m below l r e g = same_state (Behind before at FORCE m (places at o ++ below) below) o p t u Both k e (both before at o t m below g)
read_word before at o p t u _ k _ m below l r e g = cc

pub word_is : (before : List ℕ) (at : ℕ) (o p : Outer) (t u : Body) (h k : Half) (w : Token) (m d below : List ℕ) → 256 ≤ at → at + open_size o t h + laid_by w ≤ GREATEST_LIMIT → read o t h w ≡ Some (At p u k) → Draft before at o t h m d below → Draft before at p u k (lays w m d).0 (lays w m d).1 below
word_is before at o p t u h k w m d below l r e g =
    subst (λ x. Behind before at w m x below p u k) (sym g.stack) (read_word before at o p t u h k w m below l r e (opens before at o t h m d below g))

pub tick_name : (before : List ℕ) (at : ℕ) (o : Outer) (t : Body) (m d below : List ℕ) (w : ℕ) → 256 ≤ at → at + open_size o t Free + 4 ≤ GREATEST_LIMIT → Draft before at o t Free m d below → Draft before at o (Tick t w) Free (laid m (literal_code m w)) d below
tick_name before at o t m d below w l r g =
    let rt = runtime before in
    let h = opens before at o t Free m d below g in
    let bs = open_code rt o t Free at in
    let A = outer_code rt o at in
    let C = code rt t (at + outer_size o) in
    let c = control_kept before at bs m 6 l (omega arith) h in
    let e : bs ++ (cell_bytes (runtime m 6) ++ cell_bytes w) ≡ open_code rt o (Tick t w) Free at = append_assoc A C (cell_bytes (runtime m 6) ++ cell_bytes w) ∙ ap (λ v. A ++ (C ++ (cell_bytes v ++ cell_bytes w))) c in
    drafts before at o (Tick t w) Free (bs ++ (cell_bytes (runtime m 6) ++ cell_bytes w)) (laid m (literal_code m w)) d below e g.stack (lies_control before at o t Free m 6 w l r h)
