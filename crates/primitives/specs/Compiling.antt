use Rattle.std.specs.Prelude.{ℕ, ◌+◌, ◌%◌, List, [], ◌∷◌, length}
use Rattle.block_buffers.specs.Entries.{limit}
use Rattle.cells.specs.Cell.{wrap}
use Rattle.compiling_words.specs.Code.{runtime, control_code, literal_code}
use Rattle.compiling_words.specs.Definitions.{ended}
use Rattle.compiling_words.specs.Laying.{laid, can_allot, allotted, resolved}
use Rattle.memory.specs.Bytes.{cell, put_cell, cell_bytes}
use Rattle.memory.specs.Controls.{number_of}
use Rattle.memory.specs.declared.controls.Control.TheVariants as ctl
use Rattle.memory.specs.declared.system.TheConstants.{STATE, DP}
use Rattle.machine_parts.specs.declared.faults.TheConstants.{DICTIONARY_FULL}
use Rattle.stacks.specs.Cells.{◌▸◌}
use Rattle.machine_parts.specs.Whole.{Whole}
use Rattle.machine_parts.specs.Row.{After, done, takes1, takes2, needs, leaves, room, has_room}

-- writes the bytes, and leaves d on the data stack
unfoldable pub compiles : Whole → List ℕ → List ℕ → After
compiles s bs d =
    needs s DICTIONARY_FULL (has_room s (length bs))
    (room s d (done (record s { values = d; memory = laid s.memory bs })))

-- the same, and then the cell at a is the new HERE
unfoldable pub resolves : Whole → List ℕ → ℕ → List ℕ → After
resolves s bs a d =
    needs s DICTIONARY_FULL (has_room s (length bs)) (room s d (done (record s {
      values = d;
      memory = put_cell (laid s.memory bs) a (wrap (cell s.memory DP + length bs));
    })))

-- the place n bytes after HERE
abbrev pub ahead : Whole → ℕ → ℕ
ahead s n = wrap (cell s.memory DP + n)

-- 169 ; ( -- ): the runtime cell of EXIT; then the newest header isn't hidden, and STATE := 0
abbrev pub semicolon : Whole → After
semicolon s = needs s DICTIONARY_FULL (has_room s 2) (done (record s { memory = ended s.memory }))

-- 170 [ ( -- )
abbrev pub left_bracket : Whole → After
left_bracket s = done (record s { memory = put_cell s.memory STATE 0 })

-- 171 ] ( -- )
abbrev pub right_bracket : Whole → After
right_bracket s = done (record s { memory = put_cell s.memory STATE 65535 })

-- 172 , ( x -- )
abbrev pub comma : Whole → After
comma s = takes1 s (λ x rest. compiles s (cell_bytes x) rest)

-- 173 C, ( c -- )
abbrev pub c_comma : Whole → After
c_comma s = takes1 s (λ c rest. compiles s (c % 256 ∷ []) rest)

-- 174 ALLOT ( n -- )
abbrev pub allot : Whole → After
allot s = takes1 s (λ n rest. needs s DICTIONARY_FULL (can_allot (limit s.buffers) s.memory n)
    (done (record s { values = rest; memory = allotted s.memory n })))

-- 175 LITERAL ( x -- )
abbrev pub literal : Whole → After
literal s = takes1 s (λ x rest. compiles s (literal_code s.memory x) rest)

-- 178 DOES> ( -- )
abbrev pub compile_does : Whole → After
compile_does s = compiles s (cell_bytes (runtime s.memory (number_of ctl.Does))) s.values

-- 179 IF ( -- a ): a is where the branch's target will be
abbrev pub if_row : Whole → After
if_row s = compiles s (control_code s.memory (number_of ctl.ZeroBranch) 0) (s.values ▸ ahead s 2)

-- 180 ELSE ( a -- a2 ): the IF goes after the branch, and a2 is where the branch's target will be
abbrev pub else_row : Whole → After
else_row s = takes1 s (λ a rest. resolves s (control_code s.memory (number_of ctl.Branch) 0) a (rest ▸ ahead s 2))

-- 181 THEN ( a -- )
abbrev pub then_row : Whole → After
then_row s = takes1 s (λ a rest. done (record s { values = rest; memory = resolved s.memory a }))

-- 182 BEGIN ( -- a )
abbrev pub begin : Whole → After
begin s = leaves s (s.values ▸ cell s.memory DP)

-- 183 UNTIL ( a -- )
abbrev pub until : Whole → After
until s = takes1 s (λ a rest. compiles s (control_code s.memory (number_of ctl.ZeroBranch) a) rest)

-- 184 WHILE ( -- a ): as IF
abbrev pub while_row : Whole → After
while_row s = if_row s

-- 185 REPEAT ( a b -- ): back to a, and the WHILE of b goes after that
abbrev pub repeat : Whole → After
repeat s = takes2 s (λ a b rest. resolves s (control_code s.memory (number_of ctl.Branch) a) b rest)

-- 186 AGAIN ( a -- )
abbrev pub again : Whole → After
again s = takes1 s (λ a rest. compiles s (control_code s.memory (number_of ctl.Branch) a) rest)

-- 187 DO ( -- a b ): a is where the loop's end will be, and b is its body
abbrev pub do_row : Whole → After
do_row s = compiles s (control_code s.memory (number_of ctl.Do) 0) (s.values ▸ ahead s 2 ▸ ahead s 4)

-- 188 LOOP ( a b -- )
abbrev pub loop_row : Whole → After
loop_row s = takes2 s (λ a b rest. resolves s (control_code s.memory (number_of ctl.Loop) b) a rest)

-- 189 +LOOP ( a b -- )
abbrev pub plus_loop : Whole → After
plus_loop s = takes2 s (λ a b rest. resolves s (control_code s.memory (number_of ctl.PlusLoop) b) a rest)

-- 194 <MARK ( -- a )
abbrev pub mark_back : Whole → After
mark_back s = leaves s (s.values ▸ cell s.memory DP)

-- 195 <RESOLVE ( a -- )
abbrev pub resolve_back : Whole → After
resolve_back s = takes1 s (λ a rest. compiles s (cell_bytes a) rest)

-- 196 >MARK ( -- a )
abbrev pub mark_forward : Whole → After
mark_forward s = compiles s (cell_bytes 0) (s.values ▸ cell s.memory DP)

-- 197 >RESOLVE ( a -- )
abbrev pub resolve_forward : Whole → After
resolve_forward s = takes1 s (λ a rest. done (record s { values = rest; memory = resolved s.memory a }))
