-- The size and the bytes of a body.
use Rattle.std.specs.Prelude.{ℕ, ◌+◌, ◌/◌, ◌%◌, List, [], ◌∷◌, ◌++◌, length}
use Rattle.colon_bodies.specs.Tokens.{text_control, loop_control}
use Rattle.colon_bodies.specs.Tree.{Body, Definition, Empty, Call, Literal, Double, Tick, Pair, IfThen, IfElse, Until, Again, While, Loop, Text, Simple, Doing}
use Rattle.memory.specs.Bytes.{cell_bytes}
use Rattle.memory.specs.Controls.{number_of}
use Rattle.memory.specs.declared.controls.Control.{Control}
use Rattle.memory.specs.declared.controls.Control.TheVariants as ctl

-- the cell that calls a control primitive; rt k is the compilation address of the control of row k
abbrev pub control_cell : (ℕ → ℕ) → Control → List ℕ
control_cell rt control = cell_bytes (rt (number_of control))

-- how many bytes it takes
abbrev pub size : Body → ℕ
size Empty = 0
size (Call t f w) = size t + 2
size (Literal t n) = size t + 4
size (Double t n) = size t + 8
size (Tick t w) = size t + 4
size (Pair t f w) = size t + 4
size (IfThen t a) = size t + (4 + size a)
size (IfElse t a b) = size t + (8 + size a + size b)
size (Until t a) = size t + (size a + 4)
size (Again t a) = size t + (size a + 4)
size (While t a b) = size t + (8 + size a + size b)
size (Loop t a k) = size t + (8 + size a)
size (Text t k bs) = size t + (3 + length bs)

abbrev pub all_size : Definition → ℕ
all_size (Simple t) = size t
all_size (Doing t a) = size t + (2 + size a)

-- the bytes of a body that is at an address
abbrev pub code : (ℕ → ℕ) → Body → ℕ → List ℕ
code rt Empty at = []
code rt (Call t f w) at = code rt t at ++ cell_bytes w
code rt (Literal t n) at = code rt t at ++ (control_cell rt ctl.Literal ++ cell_bytes n)
code rt (Double t n) at = code rt t at ++ (control_cell rt ctl.Literal ++ (cell_bytes (n % 65536) ++ (control_cell rt ctl.Literal ++ cell_bytes (n / 65536))))
code rt (Tick t w) at = code rt t at ++ (control_cell rt ctl.Literal ++ cell_bytes w)
code rt (Pair t f w) at = code rt t at ++ (control_cell rt ctl.Compile ++ cell_bytes w)
code rt (IfThen t a) at =
    let p = at + size t in
    code rt t at ++ (control_cell rt ctl.ZeroBranch ++ (cell_bytes (p + (4 + size a)) ++ code rt a (p + 4)))
code rt (IfElse t a b) at =
    let p = at + size t in
    code rt t at ++ (control_cell rt ctl.ZeroBranch ++ (cell_bytes (p + (8 + size a)) ++ (code rt a (p + 4)
    ++ (control_cell rt ctl.Branch ++ (cell_bytes (p + (8 + size a + size b)) ++ code rt b (p + (8 + size a)))))))
code rt (Until t a) at =
    let p = at + size t in
    code rt t at ++ (code rt a p ++ (control_cell rt ctl.ZeroBranch ++ cell_bytes p))
code rt (Again t a) at =
    let p = at + size t in
    code rt t at ++ (code rt a p ++ (control_cell rt ctl.Branch ++ cell_bytes p))
code rt (While t a b) at =
    let p = at + size t in
    code rt t at ++ (code rt a p ++ (control_cell rt ctl.ZeroBranch ++ (cell_bytes (p + (8 + size a + size b)) ++ (code rt b (p + (size a + 4))
    ++ (control_cell rt ctl.Branch ++ cell_bytes p)))))
code rt (Loop t a k) at =
    let p = at + size t in
    code rt t at ++ (control_cell rt ctl.Do ++ (cell_bytes (p + (8 + size a)) ++ (code rt a (p + 4) ++ (cell_bytes (rt (loop_control k)) ++ cell_bytes (p + 4)))))
code rt (Text t k bs) at = code rt t at ++ (cell_bytes (rt (text_control k)) ++ (length bs ∷ bs))

abbrev pub all_code : (ℕ → ℕ) → Definition → ℕ → List ℕ
all_code rt (Simple t) at = code rt t at
all_code rt (Doing t a) at = code rt t at ++ (control_cell rt ctl.Does ++ code rt a (at + (size t + 2)))

-- a whole definition: its bodies, and EXIT
abbrev pub whole_code : (ℕ → ℕ) → Definition → ℕ → List ℕ
whole_code rt d at = all_code rt d at ++ control_cell rt ctl.Exit
