-- Plain rows: by the shape of each row.
use Rattle.std.proofs.Common.{ℕ, List, Bool, refl, rules, if◌then◌else◌}
use Rattle.machine_parts.specs.Whole.{Whole}
use Rattle.machine_parts.specs.Row.{After, takes1, takes2, takes3, takes4, takes6, takes_r1, takes_r3, takes_r4, fault, room, room_r}
use Rattle.plain_rows.specs.Plain.{IsPlain}
use Rattle.machine_parts.proofs.Shapes.{by_if, by_room, by_room_r, by_takes1, by_takes2, by_takes3, by_takes4, by_takes6, by_takes_r1, by_takes_r3, by_takes_r4}
use Rattle.plain_rows.specs.Table.{control_rows, control, stack_rows, stack, cell_rows, cells, double_rows, doubles, memory_rows, memory}
use Rattle.plain_rows.proofs.Tables.{Each, by_rows}

pub plain_fault : (s : Whole) (f : ℕ) → IsPlain s (fault s f)
plain_fault s f = refl

plain_if : (s : Whole) (b : Bool) (x y : After) → IsPlain s x → IsPlain s y → IsPlain s (if b then x else y)
plain_if s b x y h k = by_if (IsPlain s) b x y h k

plain_room : (s : Whole) (d : List ℕ) (x : After) → IsPlain s x → IsPlain s (room s d x)
plain_room s d x h = by_room (IsPlain s) s d x refl h

plain_room_r : (s : Whole) (r : List ℕ) (x : After) → IsPlain s x → IsPlain s (room_r s r x)
plain_room_r s r x h = by_room_r (IsPlain s) s r x refl h

plain_takes1 : (s : Whole) (f : ℕ → List ℕ → After) → ((c0 : ℕ) (d : List ℕ) → IsPlain s (f c0 d)) → IsPlain s (takes1 s f)
plain_takes1 s f h = by_takes1 (IsPlain s) s f refl h

plain_takes2 : (s : Whole) (f : ℕ → ℕ → List ℕ → After) → ((c0 c1 : ℕ) (d : List ℕ) → IsPlain s (f c0 c1 d)) → IsPlain s (takes2 s f)
plain_takes2 s f h = by_takes2 (IsPlain s) s f refl h

plain_takes3 : (s : Whole) (f : ℕ → ℕ → ℕ → List ℕ → After) → ((c0 c1 c2 : ℕ) (d : List ℕ) → IsPlain s (f c0 c1 c2 d)) → IsPlain s (takes3 s f)
plain_takes3 s f h = by_takes3 (IsPlain s) s f refl h

plain_takes4 : (s : Whole) (f : ℕ → ℕ → ℕ → ℕ → List ℕ → After) → ((c0 c1 c2 c3 : ℕ) (d : List ℕ) → IsPlain s (f c0 c1 c2 c3 d)) → IsPlain s (takes4 s f)
plain_takes4 s f h = by_takes4 (IsPlain s) s f refl h

plain_takes6 : (s : Whole) (f : ℕ → ℕ → ℕ → ℕ → ℕ → ℕ → List ℕ → After) → ((c0 c1 c2 c3 c4 c5 : ℕ) (d : List ℕ) → IsPlain s (f c0 c1 c2 c3 c4 c5 d)) → IsPlain s (takes6 s f)
plain_takes6 s f h = by_takes6 (IsPlain s) s f refl h

plain_takes_r1 : (s : Whole) (f : ℕ → List ℕ → After) → ((c0 : ℕ) (r : List ℕ) → IsPlain s (f c0 r)) → IsPlain s (takes_r1 s f)
plain_takes_r1 s f h = by_takes_r1 (IsPlain s) s f refl h

plain_takes_r3 : (s : Whole) (f : ℕ → ℕ → ℕ → List ℕ → After) → ((c0 c1 c2 : ℕ) (r : List ℕ) → IsPlain s (f c0 c1 c2 r)) → IsPlain s (takes_r3 s f)
plain_takes_r3 s f h = by_takes_r3 (IsPlain s) s f refl h

plain_takes_r4 : (s : Whole) (f : ℕ → ℕ → ℕ → ℕ → List ℕ → After) → ((c0 c1 c2 c3 : ℕ) (r : List ℕ) → IsPlain s (f c0 c1 c2 c3 r)) → IsPlain s (takes_r4 s f)
plain_takes_r4 s f h = by_takes_r4 (IsPlain s) s f refl h

ruleset plain = (plain_fault, plain_if, plain_room, plain_room_r, plain_takes1, plain_takes2, plain_takes3, plain_takes4, plain_takes6, plain_takes_r1, plain_takes_r3, plain_takes_r4)

all_control : (w : ℕ) (s : Whole) → Each (λ n. IsPlain s) (control_rows w) s
unfolding Each
all_control w s = search (rules, plain)

pub plain_control : (n w : ℕ) (s : Whole) → IsPlain s (control n w s)
unfolding control
plain_control n w s = by_rows (λ n. IsPlain s) (control_rows w) n s (all_control w s) (λ n. plain_fault s 6)

all_stack : (s : Whole) → Each (λ n. IsPlain s) stack_rows s
unfolding Each
all_stack s = search (rules, plain)

pub plain_stack : (n : ℕ) (s : Whole) → IsPlain s (stack n s)
unfolding stack
plain_stack n s = by_rows (λ n. IsPlain s) stack_rows n s (all_stack s) (λ n. plain_fault s 6)

all_cells : (s : Whole) → Each (λ n. IsPlain s) cell_rows s
unfolding Each
all_cells s = search (rules, plain)

pub plain_cells : (n : ℕ) (s : Whole) → IsPlain s (cells n s)
unfolding cells
plain_cells n s = by_rows (λ n. IsPlain s) cell_rows n s (all_cells s) (λ n. plain_fault s 6)

all_doubles : (s : Whole) → Each (λ n. IsPlain s) double_rows s
unfolding Each
all_doubles s = search (rules, plain)

pub plain_doubles : (n : ℕ) (s : Whole) → IsPlain s (doubles n s)
unfolding doubles
plain_doubles n s = by_rows (λ n. IsPlain s) double_rows n s (all_doubles s) (λ n. plain_fault s 6)

all_memory : (s : Whole) → Each (λ n. IsPlain s) memory_rows s
unfolding Each
all_memory s = search (rules, plain)

pub plain_memory : (n : ℕ) (s : Whole) → IsPlain s (memory n s)
unfolding memory
plain_memory n s = by_rows (λ n. IsPlain s) memory_rows n s (all_memory s) (λ n. plain_fault s 6)
