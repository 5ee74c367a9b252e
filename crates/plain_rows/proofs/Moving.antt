-- Each row does the same wherever memory is.
use Rattle.std.proofs.Common.{ℕ, zero, suc, ◌==◌, List, [], ◌∷◌, take, drop, rules}
use Rattle.machine_parts.specs.Whole.{Whole, at_place}
use Rattle.machine_parts.specs.Row.{After}
use Rattle.machine_parts.proofs.Places.{Moves, moved_fault, moved_if, moving}
use Rattle.plain_rows.specs.Table.{row_in, control_rows, control, stack_rows, stack, cell_rows, cells, double_rows, doubles, memory_rows, memory}

-- each row of a table does
unfoldable pub AllMove : List (ℕ × (Whole → After)) → Type 0
AllMove [] = Unit {0}
AllMove (e ∷ rest) = Moves e.1 × AllMove rest

-- so does the row of any number
pub moves_row_in : (rows : List (ℕ × (Whole → After))) (n : ℕ) → AllMove rows → Moves (row_in rows n)
unfolding row_in AllMove Moves
moves_row_in [] n h p s = moved_fault p s 6
moves_row_in (e ∷ rest) n h p s = moved_if p (n == e.0) (e.1 s) (row_in rest n s) (e.1 (at_place p s)) (row_in rest n (at_place p s)) (h.0 p s) (moves_row_in rest n h.1 p s)

-- a long table in two parts
pub of_two : (n : ℕ) (rows : List (ℕ × (Whole → After))) → AllMove (take n rows) → AllMove (drop n rows) → AllMove rows
unfolding AllMove
of_two zero rows h k = k
of_two (suc n) [] h k = tt
of_two (suc n) (e ∷ rest) h k = (h.0, of_two n rest h.1 k)

all_control : (w : ℕ) → AllMove (control_rows w)
unfolding AllMove Moves
all_control w = search (rules, moving) depth 9

pub moved_control : (n w : ℕ) → Moves (control n w)
unfolding control Moves
moved_control n w = moves_row_in (control_rows w) n (all_control w)

all_stack : AllMove stack_rows
unfolding AllMove Moves
all_stack = search (rules, moving) depth 9

pub moved_stack : (n : ℕ) → Moves (stack n)
unfolding stack Moves
moved_stack n = moves_row_in stack_rows n all_stack

all_cells : AllMove cell_rows
unfolding AllMove Moves
all_cells = search (rules, moving) depth 9

pub moved_cells : (n : ℕ) → Moves (cells n)
unfolding cells Moves
moved_cells n = moves_row_in cell_rows n all_cells

all_doubles : AllMove double_rows
unfolding AllMove Moves
all_doubles = search (rules, moving) depth 9

pub moved_doubles : (n : ℕ) → Moves (doubles n)
unfolding doubles Moves
moved_doubles n = moves_row_in double_rows n all_doubles

all_memory : AllMove memory_rows
unfolding AllMove Moves
all_memory = search (rules, moving) depth 9

pub moved_memory : (n : ℕ) → Moves (memory n)
unfolding memory Moves
moved_memory n = moves_row_in memory_rows n all_memory
