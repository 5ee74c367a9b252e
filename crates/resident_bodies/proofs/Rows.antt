-- The rows of a body's keywords.
use Rattle.std.proofs.Common.{◌≡◌, ℕ, ◌+◌, ◌≤◌, List, ◌∷◌, ◌++◌, length, Some, refl, sym, subst, arith}
use Rattle.std.specs.Prelude.{true, false, nat_lt, Option}
use Rattle.memory.specs.Bytes.{cell, put_cell, cell_bytes}
use Rattle.dictionary.specs.Laying.{fits}
use Rattle.block_buffers.specs.Entries.{limit}
use Rattle.machine_parts.specs.Whole.{Whole}
use Rattle.machine_parts.specs.declared.parts.Outcome.TheVariants.{Done}
use Rattle.machine_parts.specs.Row.{After, takes1, takes2, room, has_room}
use Rattle.primitives.specs.Compiling.{compiles, resolves}
use Rattle.plain_rows.specs.Table.{row_in}
use Rattle.primitives.specs.Table.{row, compiling}
use Rattle.primitives.specs.Interpret.{compiles_past}
use Rattle.primitives.specs.Defining.{lays_past}
use Rattle.input_source.specs.declared.words.Word.{Word}
use Rattle.memory.proofs.Kept.{cell_beside}
use Rattle.compiling_words.specs.Code.{runtime, control_code}
use Rattle.compiling_words.specs.Definitions.{ended}
use Rattle.compiling_words.specs.Laying.{laid}
use Rattle.colon_bodies.specs.declared.words.Half.{Half}
use Rattle.colon_bodies.specs.declared.words.Half.TheVariants.{Free}
use Rattle.colon_bodies.specs.Tokens.{Token, IF, ELSE, THEN, BEGIN, UNTIL, AGAIN, WHILE, REPEAT, DO, LOOP, DOES, laid_by}
use Rattle.colon_bodies.specs.Tree.{Body}
use Rattle.colon_bodies.specs.Open.{Outer, State, At, fit, read, open_size}
use Rattle.colon_bodies.proofs.Cells.{length-cell}
use Rattle.resident_bodies.specs.Words.{ahead, laid_and_resolved, lays, row_of}
use Rattle.resident_bodies.specs.Drafts.{places, Draft}
use Rattle.resident_bodies.proofs.Words.{length-two}

pub has_room_is : (s : Whole) (n : ℕ) → cell s.memory 28 + n ≤ limit s.buffers → has_room s n ≡ true
unfolding fits
has_room_is s n h = grind arith

room_is : (n : ℕ) → n ≤ 256 → nat_lt 256 n ≡ false
room_is n h = grind arith

compiles_is : (s : Whole) (bs d : List ℕ) → cell s.memory 28 + length bs ≤ limit s.buffers → length d ≤ 256 → compiles s bs d ≡ (record s { values = d; memory = laid s.memory bs }, Done)
unfolding compiles room
compiles_is s bs d f g = rw (has_room_is s (length bs) f, room_is (length d) g) refl

resolves_is : (s : Whole) (bs : List ℕ) (a : ℕ) (d : List ℕ) → cell s.memory 28 + length bs ≤ limit s.buffers → length d ≤ 256 → resolves s bs a d ≡ (record s { values = d; memory = laid_and_resolved s.memory bs a }, Done)
unfolding resolves room
resolves_is s bs a d f g = rw (has_room_is s (length bs) f, room_is (length d) g) refl

-- parts with another stack, and then with another memory too
abbrev with_stack : Whole → List ℕ → Whole
with_stack s d = record s { values = d }

abbrev pub behind_row : Whole → List ℕ × List ℕ → After
behind_row s x = (record s { values = x.1; memory = x.0 }, Done)

control_is : (s : Whole) (k x : ℕ) (d : List ℕ) → cell s.memory 28 + 4 ≤ limit s.buffers → length d ≤ 256 → compiles s (control_code s.memory k x) d ≡ (record s { values = d; memory = laid s.memory (control_code s.memory k x) }, Done)
control_is s k x d h g = compiles_is s (control_code s.memory k x) d (omega (arith, length-two (runtime s.memory k) x)) g

resolved_is : (s : Whole) (k x a : ℕ) (d : List ℕ) → cell s.memory 28 + 4 ≤ limit s.buffers → length d ≤ 256 → resolves s (control_code s.memory k x) a d ≡ (record s { values = d; memory = laid_and_resolved s.memory (control_code s.memory k x) a }, Done)
resolved_is s k x a d h g = resolves_is s (control_code s.memory k x) a d (omega (arith, length-two (runtime s.memory k) x)) g

-- each row, by its number
RowIs : (n w : ℕ) → Whole → Token → List ℕ → Type 0
RowIs n w s k d = row n w (with_stack s d) ≡ behind_row s (lays k s.memory d)

at_number : (a n w : ℕ) (s : Whole) (k : Token) (d : List ℕ) → Some a ≡ Some n → RowIs a w s k d → RowIs n w s k d
at_number a n w s k d e h = let q : a ≡ n = cc in subst (λ i. RowIs i w s k d) q h

if_row : (w : ℕ) (s : Whole) (d : List ℕ) → cell s.memory 28 + 4 ≤ limit s.buffers → length d ≤ 250 → RowIs 179 w s IF d
unfolding row row_in compiling RowIs
if_row w s d h g = control_is (with_stack s d) 8 0 (ahead s.memory 2 ∷ d) h (omega arith)

while_row : (w : ℕ) (s : Whole) (d : List ℕ) → cell s.memory 28 + 4 ≤ limit s.buffers → length d ≤ 250 → RowIs 184 w s WHILE d
unfolding row row_in compiling RowIs
while_row w s d h g = control_is (with_stack s d) 8 0 (ahead s.memory 2 ∷ d) h (omega arith)

do_row : (w : ℕ) (s : Whole) (d : List ℕ) → cell s.memory 28 + 4 ≤ limit s.buffers → length d ≤ 250 → RowIs 187 w s DO d
unfolding row row_in compiling RowIs
do_row w s d h g = control_is (with_stack s d) 9 0 (ahead s.memory 4 ∷ ahead s.memory 2 ∷ d) h (omega arith)

does_row : (w : ℕ) (s : Whole) (d : List ℕ) → cell s.memory 28 + 2 ≤ limit s.buffers → length d ≤ 250 → RowIs 178 w s DOES d
unfolding row row_in compiling RowIs
does_row w s d h g = compiles_is (with_stack s d) (cell_bytes (runtime s.memory 18)) d (omega (arith, length-cell (runtime s.memory 18))) (omega arith)

begin_row : (w : ℕ) (s : Whole) (d : List ℕ) → length d ≤ 250 → RowIs 182 w s BEGIN d
unfolding row row_in compiling room RowIs
begin_row w s d g = rw (room_is (length (cell s.memory 28 ∷ d)) (omega arith)) refl

then_row : (w : ℕ) (s : Whole) (a : ℕ) (d : List ℕ) → RowIs 181 w s THEN (a ∷ d)
unfolding row row_in compiling takes1 RowIs
then_row w s a d = refl

else_row : (w : ℕ) (s : Whole) (a : ℕ) (d : List ℕ) → cell s.memory 28 + 4 ≤ limit s.buffers → length d ≤ 250 → RowIs 180 w s ELSE (a ∷ d)
unfolding row row_in compiling takes1 RowIs
else_row w s a d h g = resolved_is (with_stack s (a ∷ d)) 7 0 a (ahead s.memory 2 ∷ d) h (omega arith)

until_row : (w : ℕ) (s : Whole) (a : ℕ) (d : List ℕ) → cell s.memory 28 + 4 ≤ limit s.buffers → length d ≤ 250 → RowIs 183 w s UNTIL (a ∷ d)
unfolding row row_in compiling takes1 RowIs
until_row w s a d h g = control_is (with_stack s (a ∷ d)) 8 a d h (omega arith)

again_row : (w : ℕ) (s : Whole) (a : ℕ) (d : List ℕ) → cell s.memory 28 + 4 ≤ limit s.buffers → length d ≤ 250 → RowIs 186 w s AGAIN (a ∷ d)
unfolding row row_in compiling takes1 RowIs
again_row w s a d h g = control_is (with_stack s (a ∷ d)) 7 a d h (omega arith)

repeat_row : (w : ℕ) (s : Whole) (a b : ℕ) (d : List ℕ) → cell s.memory 28 + 4 ≤ limit s.buffers → length d ≤ 250 → RowIs 185 w s REPEAT (b ∷ a ∷ d)
unfolding row row_in compiling takes2 RowIs
repeat_row w s a b d h g = resolved_is (with_stack s (b ∷ a ∷ d)) 7 a b d h (omega arith)

loop_row : (w : ℕ) (s : Whole) (a b : ℕ) (d : List ℕ) → cell s.memory 28 + 4 ≤ limit s.buffers → length d ≤ 250 → RowIs 188 w s (LOOP false) (b ∷ a ∷ d)
unfolding row row_in compiling takes2 RowIs
loop_row w s a b d h g = resolved_is (with_stack s (b ∷ a ∷ d)) 10 b a d h (omega arith)

plus_loop_row : (w : ℕ) (s : Whole) (a b : ℕ) (d : List ℕ) → cell s.memory 28 + 4 ≤ limit s.buffers → length d ≤ 250 → RowIs 189 w s (LOOP true) (b ∷ a ∷ d)
unfolding row row_in compiling takes2 RowIs
plus_loop_row w s a b d h g = resolved_is (with_stack s (b ∷ a ∷ d)) 11 b a d h (omega arith)

-- the row of a word that fits
fit_row : (at : ℕ) (o p : Outer) (t u : Body) (h : Half) (k : Token) (n w : ℕ) (s : Whole) (below : List ℕ) → row_of k ≡ Some n → fit o t k ≡ Some (At p u h) → cell s.memory 28 + laid_by k ≤ limit s.buffers → length (places at o ++ below) ≤ 250 → RowIs n w s k (places at o ++ below)
fit_row at o p t u h k n w s below q e r g = grind (arith, at_number, if_row, begin_row, do_row, does_row, then_row, else_row, until_row, again_row, while_row, repeat_row, loop_row, plus_loop_row)

fits_so : (o : Outer) (t : Body) (k : Token) (n : ℕ) (x : Option State) → row_of k ≡ Some n → read o t Free k ≡ x → fit o t k ≡ x
fits_so o t k n x q e = grind arith

pub row_is : (before : List ℕ) (at : ℕ) (o p : Outer) (t u : Body) (h : Half) (k : Token) (n w : ℕ) (s : Whole) (below : List ℕ) → at + open_size o t Free + laid_by k ≤ limit s.buffers → length s.values ≤ 250 → row_of k ≡ Some n → read o t Free k ≡ Some (At p u h) → Draft before at o t Free s.memory s.values below
    → row n w s ≡ (record s { memory = (lays k s.memory s.values).0; values = (lays k s.memory s.values).1 }, Done)
unfolding RowIs
row_is before at o p t u h k n w s below r g q e d =
    let v = d.stack in
    subst (λ x. RowIs n w s k x) (sym v) (fit_row at o p t u h k n w s below q (fits_so o t k n (Some (At p u h)) q e) (omega arith) (subst (λ x. length x ≤ 250) v g))

pub semicolon_is : (s : Whole) (w : ℕ) → cell s.memory 28 + 2 ≤ limit s.buffers → row 169 w s ≡ (record s { memory = ended s.memory }, Done)
unfolding row row_in compiling
semicolon_is s w h = rw (has_room_is s 2 h) refl

-- >IN moves, and then bytes are written
moved_here : (m : List ℕ) (q : ℕ) → cell (put_cell m 20 q) 28 ≡ cell m 28
moved_here m q = cell_beside m 20 q 28 (omega arith) (omega arith) (omega arith) (omega arith) (omega arith)

pub compiles_past_is : (s : Whole) (w : Word) (bs : List ℕ) → cell s.memory 28 + length bs ≤ limit s.buffers → length s.values ≤ 255 → compiles_past s w bs ≡ (record s { values = 65535 ∷ s.values; memory = laid (put_cell s.memory 20 w.next) bs }, Done)
unfolding compiles_past room
compiles_past_is s w bs h g = grind (arith, has_room_is, room_is, moved_here)

pub lays_past_is : (s : Whole) (w : Word) (bs : List ℕ) → cell s.memory 28 + length bs ≤ limit s.buffers → lays_past s w bs ≡ (record s { memory = laid (put_cell s.memory 20 w.next) bs }, Done)
unfolding lays_past
lays_past_is s w bs h = grind (arith, has_room_is, moved_here)
