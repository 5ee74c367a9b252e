-- Which rows answer unknown code: those of no number of a row, and no others.
use Rattle.std.proofs.Common.{ℕ, ◌<◌, ◌≤◌, arith, rules, if◌then◌else◌, ◌≡◌, ◌+◌, ◌⊎◌, length, inl, inr, ◌≢◌, Result, ◌==◌, List, drop, Bool, false, refl, sym, ap, ◌∙◌}
use Rattle.std.specs.Prelude.{nat_lt, true}
use Rattle.std.proofs.lemmas.Bool.{cases_lt}
use Rattle.machine_parts.specs.Whole.{Whole}
use Rattle.machine_parts.specs.Row.{After, fault, takes1, takes2, takes3, takes4, takes6, takes_r1, takes_r3, takes_r4, room, room_r}
use Rattle.plain_rows.specs.Table.{control_rows, control, stack_rows, stack, cell_rows, cells, double_rows, doubles, memory_rows, memory, row_in}
use Rattle.plain_rows.proofs.Tables.{AreFrom, lacks_before, lacks_behind, Each, has_between, of_parts}
use Rattle.primitives.specs.Table.{device_rows, devices, number_rows, numbers, input_rows, input, compiling_rows, compiling, editor_rows, editor, row}
use Rattle.machine_parts.specs.declared.faults.TheConstants.{UNKNOWN_CODE}
use Rattle.image_builder.specs.Grammar.{is_gap}
use Rattle.dictionary.specs.declared.fault.ForgetFault.{ForgetFault}
use Rattle.dictionary.specs.Search.{Sought}
use Rattle.input_source.specs.declared.words.Word.{Word}
use Rattle.memory.specs.Bytes.{Write}
use Rattle.machine_parts.specs.declared.parts.Outcome.{Outcome}
use Rattle.machine_parts.specs.declared.parts.Request.{Request}
use Rattle.machine_parts.specs.declared.parts.Span.{Span}
use Rattle.machine_parts.proofs.Shapes.{by_if, by_room, by_room_r, by_takes1, by_takes2, by_takes3, by_takes4, by_takes6, by_takes_r1, by_takes_r3, by_takes_r4}
use Rattle.primitives.specs.Blocks.{without_block}
use Rattle.primitives.specs.Devices.{saves_victim, saves}
use Rattle.primitives.specs.Names.{searches, forgets}
use Rattle.primitives.specs.DictionaryRows.{leaves_past, creates}
use Rattle.primitives.specs.Interpret.{compiles_past}
use Rattle.primitives.specs.Defining.{lays_past}
use Rattle.primitives.specs.Compiling.{compiles, resolves}
use Rattle.machine_parts.specs.declared.parts.Outcome.TheVariants as outcome

-- The groups of the table: where a number's row is, and which numbers each group has.

below : (P : After → Type 0) (n k : ℕ) (x y : After) → (n < k → P x) → (k ≤ n → P y) → P (if nat_lt n k then x else y)
below P n k x y h j = grind arith

-- what holds of a number's row in its group holds of its row
pub by_group : (P : After → Type 0) (n w : ℕ) (s : Whole)
    → (n < 32 → P (control n w s))
    → (32 ≤ n → n < 48 → P (stack n s))
    → (48 ≤ n → n < 80 → P (cells n s))
    → (80 ≤ n → n < 96 → P (doubles n s))
    → (96 ≤ n → n < 112 → P (memory n s))
    → (112 ≤ n → n < 128 → P (devices n s))
    → (128 ≤ n → n < 144 → P (numbers n s))
    → (144 ≤ n → n < 160 → P (input n s))
    → (160 ≤ n → n < 200 → P (compiling n s))
    → (200 ≤ n → P (editor n s))
    → P (row n w s)
unfolding row
by_group P n w s h0 h1 h2 h3 h4 h5 h6 h7 h8 h9 =
    below P n 32 _ _ h0 (λ a32.
    below P n 48 _ _ (h1 a32) (λ a48.
    below P n 80 _ _ (h2 a48) (λ a80.
    below P n 96 _ _ (h3 a80) (λ a96.
    below P n 112 _ _ (h4 a96) (λ a112.
    below P n 128 _ _ (h5 a112) (λ a128.
    below P n 144 _ _ (h6 a128) (λ a144.
    below P n 160 _ _ (h7 a144) (λ a160.
    below P n 200 _ _ (h8 a160) (λ a200.
    h9 a200)))))))))

-- the numbers of each group
pub from_control : (w : ℕ) → AreFrom 1 (control_rows w)
unfolding AreFrom
from_control w = search (rules)

pub from_stack : AreFrom 32 stack_rows
unfolding AreFrom
from_stack = search (rules)

pub from_cells : AreFrom 48 cell_rows
unfolding AreFrom
from_cells = search (rules)

pub from_doubles : AreFrom 80 double_rows
unfolding AreFrom
from_doubles = search (rules)

pub from_memory : AreFrom 96 memory_rows
unfolding AreFrom
from_memory = search (rules)

pub from_devices : AreFrom 112 device_rows
unfolding AreFrom
from_devices = search (rules)

pub from_numbers : AreFrom 128 number_rows
unfolding AreFrom
from_numbers = search (rules)

pub from_input : AreFrom 144 input_rows
unfolding AreFrom
from_input = search (rules)

pub from_compiling : AreFrom 168 compiling_rows
unfolding AreFrom
from_compiling = search (rules)

pub from_editor : AreFrom 200 editor_rows
unfolding AreFrom
from_editor = search (rules)

-- Numbers of no row.

-- numbers before and after the rows of `compiling`
beside : (n : ℕ) (s : Whole) → (n < 168) ⊎ (168 + length compiling_rows ≤ n) → row_in compiling_rows n s ≡ fault s UNKNOWN_CODE
beside n s y0 = grind (arith, lacks_before, compiling_rows, from_compiling, lacks_behind)

beside_compiling : (n : ℕ) → 160 ≤ n → n < 200 → is_gap n ≡ true → (n < 168) ⊎ (168 + length compiling_rows ≤ n)
beside_compiling n a b g = elim (cases_lt n 168) [ inl l ↦ inl l | inr m ↦ inr (grind arith) ]

-- a gap's numbers come after a group's rows, or before those of `compiling`
pub gap : (n w : ℕ) (s : Whole) → is_gap n ≡ true → row n w s ≡ fault s UNKNOWN_CODE
unfolding control stack cells doubles memory devices numbers input compiling editor
gap n w s g = by_group (λ x. x ≡ fault s UNKNOWN_CODE) n w s
    (λ b. lacks_behind 1 n (control_rows w) s (from_control w) (grind arith))
    (λ a b. lacks_behind 32 n stack_rows s from_stack (grind arith))
    (λ a b. lacks_behind 48 n cell_rows s from_cells (grind arith))
    (λ a b. lacks_behind 80 n double_rows s from_doubles (grind arith))
    (λ a b. lacks_behind 96 n memory_rows s from_memory (grind arith))
    (λ a b. lacks_behind 112 n device_rows s from_devices (grind arith))
    (λ a b. lacks_behind 128 n number_rows s from_numbers (grind arith))
    (λ a b. lacks_behind 144 n input_rows s from_input (grind arith))
    (λ a b. beside n s (beside_compiling n a b g))
    (λ a. lacks_behind 200 n editor_rows s from_editor (grind arith))

pub past : (n w : ℕ) (s : Whole) → 204 < n → row n w s ≡ fault s UNKNOWN_CODE
unfolding control stack cells doubles memory devices numbers input compiling editor
past n w s h = by_group (λ x. x ≡ fault s UNKNOWN_CODE) n w s
    (λ b. lacks_behind 1 n (control_rows w) s (from_control w) (omega arith))
    (λ a b. lacks_behind 32 n stack_rows s from_stack (omega arith))
    (λ a b. lacks_behind 48 n cell_rows s from_cells (omega arith))
    (λ a b. lacks_behind 80 n double_rows s from_doubles (omega arith))
    (λ a b. lacks_behind 96 n memory_rows s from_memory (omega arith))
    (λ a b. lacks_behind 112 n device_rows s from_devices (omega arith))
    (λ a b. lacks_behind 128 n number_rows s from_numbers (omega arith))
    (λ a b. lacks_behind 144 n input_rows s from_input (omega arith))
    (λ a b. lacks_behind 168 n compiling_rows s from_compiling (omega arith))
    (λ a. lacks_behind 200 n editor_rows s from_editor (omega arith))

-- The rows of the other numbers: none answers unknown code.

abbrev is_unknown : Outcome → Bool
is_unknown (outcome.Fault f) = f == 6
is_unknown _ = false

unfoldable Known : After → Type 0
Known x = is_unknown x.1 ≡ false

known_fault : (s : Whole) (f : ℕ) → (f == 6) ≡ false → Known (fault s f)
unfolding Known
known_fault s f h = h

known_done : (s : Whole) → Known (s, outcome.Done)
unfolding Known
known_done s = refl

known_show : (s : Whole) (span : Span) → Known (s, outcome.Show span)
unfolding Known
known_show s span = refl

known_byte : (s : Whole) (c : ℕ) → Known (s, outcome.Byte c)
unfolding Known
known_byte s c = refl

known_ask : (s : Whole) (r : Request) → Known (s, outcome.Ask r)
unfolding Known
known_ask s r = refl

known_abort : (s : Whole) (span : Span) → Known (s, outcome.Abort span)
unfolding Known
known_abort s span = refl

known_halt : (s : Whole) → Known (s, outcome.Halt)
unfolding Known
known_halt s = refl

known_if : (b : Bool) (x y : After) → Known x → Known y → Known (if b then x else y)
known_if b x y h k = by_if Known b x y h k

known_room : (s : Whole) (d : List ℕ) (x : After) → Known x → Known (room s d x)
known_room s d x h = by_room Known s d x (known_fault s 2 refl) h

known_room_r : (s : Whole) (r : List ℕ) (x : After) → Known x → Known (room_r s r x)
known_room_r s r x h = by_room_r Known s r x (known_fault s 4 refl) h

known_takes1 : (s : Whole) (f : ℕ → List ℕ → After) → ((c0 : ℕ) (d : List ℕ) → Known (f c0 d)) → Known (takes1 s f)
known_takes1 s f h = by_takes1 Known s f (known_fault s 1 refl) h

known_takes2 : (s : Whole) (f : ℕ → ℕ → List ℕ → After) → ((c0 c1 : ℕ) (d : List ℕ) → Known (f c0 c1 d)) → Known (takes2 s f)
known_takes2 s f h = by_takes2 Known s f (known_fault s 1 refl) h

known_takes3 : (s : Whole) (f : ℕ → ℕ → ℕ → List ℕ → After) → ((c0 c1 c2 : ℕ) (d : List ℕ) → Known (f c0 c1 c2 d)) → Known (takes3 s f)
known_takes3 s f h = by_takes3 Known s f (known_fault s 1 refl) h

known_takes4 : (s : Whole) (f : ℕ → ℕ → ℕ → ℕ → List ℕ → After) → ((c0 c1 c2 c3 : ℕ) (d : List ℕ) → Known (f c0 c1 c2 c3 d)) → Known (takes4 s f)
known_takes4 s f h = by_takes4 Known s f (known_fault s 1 refl) h

known_takes6 : (s : Whole) (f : ℕ → ℕ → ℕ → ℕ → ℕ → ℕ → List ℕ → After) → ((c0 c1 c2 c3 c4 c5 : ℕ) (d : List ℕ) → Known (f c0 c1 c2 c3 c4 c5 d)) → Known (takes6 s f)
known_takes6 s f h = by_takes6 Known s f (known_fault s 1 refl) h

known_takes_r1 : (s : Whole) (f : ℕ → List ℕ → After) → ((c0 : ℕ) (d : List ℕ) → Known (f c0 d)) → Known (takes_r1 s f)
known_takes_r1 s f h = by_takes_r1 Known s f (known_fault s 3 refl) h

known_takes_r3 : (s : Whole) (f : ℕ → ℕ → ℕ → List ℕ → After) → ((c0 c1 c2 : ℕ) (d : List ℕ) → Known (f c0 c1 c2 d)) → Known (takes_r3 s f)
known_takes_r3 s f h = by_takes_r3 Known s f (known_fault s 3 refl) h

known_takes_r4 : (s : Whole) (f : ℕ → ℕ → ℕ → ℕ → List ℕ → After) → ((c0 c1 c2 c3 : ℕ) (d : List ℕ) → Known (f c0 c1 c2 c3 d)) → Known (takes_r4 s f)
known_takes_r4 s f h = by_takes_r4 Known s f (known_fault s 3 refl) h

known_searches : (s : Whole) (x : Sought) (nowhere : After) (found : ℕ → After) → Known nowhere → ((l : ℕ) → Known (found l)) → Known (searches s x nowhere found)
unfolding searches
known_searches s x nowhere found h k = grind (arith, known_fault)

known_forgets : (s : Whole) (x : Result ℕ ForgetFault) (after : ℕ → After) → ((t : ℕ) → Known (after t)) → Known (forgets s x after)
unfolding forgets
known_forgets s x after h = grind (arith, known_fault)

asked : (t : Whole) (a b : Bool) (q r : Request) → Known (t, (if a then (if b then outcome.Ask q else outcome.Ask r) else outcome.Fault 7))
asked t a b q r = grind (arith, known_ask, known_fault)

known_without : (s t : Whole) (u : ℕ) → Known (t, without_block s u)
unfolding without_block
known_without s t u = asked t _ _ _ _

known_saves_victim : (s : Whole) (x : After) → Known x → Known (saves_victim s x)
unfolding saves_victim
known_saves_victim s x h = known_if _ _ _ (known_ask s _) h

known_saves : (s : Whole) (x : After) → Known x → Known (saves s x)
unfolding saves
known_saves s x h = known_if _ _ _ (known_ask s _) h

ruleset known = (known_fault, known_done, known_show, known_byte, known_ask, known_abort, known_halt, known_if, known_room, known_room_r, known_takes1, known_takes2, known_takes3, known_takes4, known_takes6, known_takes_r1, known_takes_r3, known_takes_r4, known_searches, known_forgets, known_without, known_saves_victim, known_saves)

known_leaves_past : (s : Whole) (w : Word) (d : List ℕ) → Known (leaves_past s w d)
unfolding leaves_past
known_leaves_past s w d = search (rules, known)

known_creates : (s : Whole) (w : Word) (name : List ℕ) (hidden : Bool) (code : ℕ) (extra : List ℕ) (more : List Write) (d : List ℕ) → Known (creates s w name hidden code extra more d)
unfolding creates
known_creates s w name hidden code extra more d = search (rules, known)

known_compiles_past : (s : Whole) (w : Word) (bs : List ℕ) → Known (compiles_past s w bs)
unfolding compiles_past
known_compiles_past s w bs = search (rules, known)

known_lays_past : (s : Whole) (w : Word) (bs : List ℕ) → Known (lays_past s w bs)
unfolding lays_past
known_lays_past s w bs = search (rules, known)

known_compiles : (s : Whole) (bs d : List ℕ) → Known (compiles s bs d)
unfolding compiles
known_compiles s bs d = search (rules, known)

known_resolves : (s : Whole) (bs : List ℕ) (a : ℕ) (d : List ℕ) → Known (resolves s bs a d)
unfolding resolves
known_resolves s bs a d = search (rules, known)

ruleset more = (known_leaves_past, known_creates, known_compiles_past, known_lays_past, known_compiles, known_resolves)

-- unknown code is answered by no row but (FAULT)
unfoldable KnownBut : ℕ → After → Type 0
KnownBut n x = (n ≡ 26) ⊎ Known x

known_row : (n : ℕ) (x : After) → Known x → KnownBut n x
unfolding KnownBut
known_row n x h = inr h

fault_row : (x : After) → KnownBut 26 x
unfolding KnownBut
fault_row x = inl refl

but_26 : (n : ℕ) (x : After) → n ≢ 26 → KnownBut n x → Known x
unfolding KnownBut
but_26 n x off y0 = grind arith

ruleset numbered = (fault_row, known_row)

all_control : (w : ℕ) (s : Whole) → Each KnownBut (control_rows w) s
unfolding Each
all_control w s = of_parts KnownBut 10 (control_rows w) s (search (rules, known, more, numbered) depth 9) (of_parts KnownBut 10 (drop 10 (control_rows w)) s (search (rules, known, more, numbered) depth 9) (search (rules, known, more, numbered) depth 9))

all_stack : (s : Whole) → Each KnownBut stack_rows s
unfolding Each
all_stack s = search (rules, known, more, numbered) depth 9

all_cells : (s : Whole) → Each KnownBut cell_rows s
unfolding Each
all_cells s = of_parts KnownBut 10 cell_rows s (search (rules, known, more, numbered) depth 9) (of_parts KnownBut 10 (drop 10 cell_rows) s (search (rules, known, more, numbered) depth 9) (search (rules, known, more, numbered) depth 9))

all_doubles : (s : Whole) → Each KnownBut double_rows s
unfolding Each
all_doubles s = search (rules, known, more, numbered) depth 9

all_memory : (s : Whole) → Each KnownBut memory_rows s
unfolding Each
all_memory s = search (rules, known, more, numbered) depth 9

all_devices : (s : Whole) → Each KnownBut device_rows s
unfolding Each
all_devices s = search (rules, known, more, numbered) depth 9

all_numbers : (s : Whole) → Each KnownBut number_rows s
unfolding Each
all_numbers s = search (rules, known, more, numbered) depth 9

all_input : (s : Whole) → Each KnownBut input_rows s
unfolding Each
all_input s = search (rules, known, more, numbered) depth 9

all_compiling : (s : Whole) → Each KnownBut compiling_rows s
unfolding Each
all_compiling s = of_parts KnownBut 10 compiling_rows s (search (rules, known, more, numbered) depth 9) (of_parts KnownBut 10 (drop 10 compiling_rows) s (search (rules, known, more, numbered) depth 9) (search (rules, known, more, numbered) depth 9))

all_editor : (s : Whole) → Each KnownBut editor_rows s
unfolding Each
all_editor s = search (rules, known, more, numbered) depth 9

known_number : (n w : ℕ) (s : Whole) → 0 < n → n < 205 → is_gap n ≡ false → KnownBut n (row n w s)
unfolding control stack cells doubles memory devices numbers input compiling editor
known_number n w s p l g = by_group (KnownBut n) n w s
    (λ b. has_between KnownBut 1 n (control_rows w) s (from_control w) (all_control w s) (grind arith) (grind arith))
    (λ a b. has_between KnownBut 32 n stack_rows s from_stack (all_stack s) (grind arith) (grind arith))
    (λ a b. has_between KnownBut 48 n cell_rows s from_cells (all_cells s) (grind arith) (grind arith))
    (λ a b. has_between KnownBut 80 n double_rows s from_doubles (all_doubles s) (grind arith) (grind arith))
    (λ a b. has_between KnownBut 96 n memory_rows s from_memory (all_memory s) (grind arith) (grind arith))
    (λ a b. has_between KnownBut 112 n device_rows s from_devices (all_devices s) (grind arith) (grind arith))
    (λ a b. has_between KnownBut 128 n number_rows s from_numbers (all_numbers s) (grind arith) (grind arith))
    (λ a b. has_between KnownBut 144 n input_rows s from_input (all_input s) (grind arith) (grind arith))
    (λ a b. has_between KnownBut 168 n compiling_rows s from_compiling (all_compiling s) (grind arith) (grind arith))
    (λ a. has_between KnownBut 200 n editor_rows s from_editor (all_editor s) (grind arith) (grind arith))

not_unknown : (x : After) → Known x → x.1 ≢ outcome.Fault UNKNOWN_CODE
unfolding Known
not_unknown x h e = let t : true ≡ false = sym (ap is_unknown e) ∙ h in cc

pub rows : (n w : ℕ) (s : Whole) → 0 < n → n < 205 → is_gap n ≡ false → n ≢ 26 → (row n w s).1 ≢ outcome.Fault UNKNOWN_CODE
rows n w s p l g r = not_unknown (row n w s) (but_26 n (row n w s) r (known_number n w s p l g))
