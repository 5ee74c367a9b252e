use Rattle.std.specs.Prelude.{◌/◌, ◌%◌}
use Rattle.machine_parts.specs.Whole.{Whole}
use Rattle.machine_parts.specs.Row.{After, done, takes1, takes3, takes_double, leaves, needs, double, ◌▸▸◌}
use Rattle.machine_parts.specs.declared.faults.TheConstants.{BAD_BASE}
use Rattle.stacks.specs.Cells.{◌▸◌}
use Rattle.cells.specs.Cell.{difference}
use Rattle.memory.specs.Bytes.{cell}
use Rattle.memory.specs.declared.system.TheConstants.{BASE, HLD}
use Rattle.number_text.specs.Base.{has_base}
use Rattle.number_text.specs.Digits.{continued}
use Rattle.number_text.specs.Conversion.{digits_behind, address_behind}
use Rattle.number_text.specs.Picture.{pad, opened, held, signed_picture, with_digit, with_digits}

-- 128 <# ( -- ): HLD := PAD
abbrev pub open_picture : Whole → After
open_picture s = done (record s { memory = opened s.memory })

-- 129 # ( ud -- ud2 ): the digit of the remainder by BASE is held
abbrev pub picture_digit : Whole → After
picture_digit s = takes_double s (λ ud rest.
    needs s BAD_BASE (has_base s.memory)
    (done (record s { values = rest ▸▸ ud / cell s.memory BASE; memory = with_digit s.memory ud })))

-- 130 #S ( ud -- 0 0 ): the digits of ud in BASE are put below HLD
abbrev pub picture_digits : Whole → After
picture_digits s = takes_double s (λ ud rest.
    needs s BAD_BASE (has_base s.memory)
    (done (record s { values = rest ▸ 0 ▸ 0; memory = with_digits s.memory ud })))

-- 131 #> ( d -- a u ): from HLD to PAD
abbrev pub close_picture : Whole → After
close_picture s = takes_double s (λ d rest.
    leaves s (rest ▸ cell s.memory HLD ▸ difference (pad s.memory) (cell s.memory HLD)))

-- 132 HOLD ( c -- )
abbrev pub hold : Whole → After
hold s = takes1 s (λ c rest. done (record s { values = rest; memory = held s.memory (c % 256) }))

-- 133 SIGN ( n -- )
abbrev pub sign : Whole → After
sign s = takes1 s (λ n rest. done (record s { values = rest; memory = signed_picture s.memory n }))

-- 134 CONVERT ( ud a -- ud2 a2 ): ud goes on with the digits after a, and a2 is after them
abbrev pub convert : Whole → After
convert s = takes3 s (λ low high a rest.
    let ud2 = continued (cell s.memory BASE) (double low high) (digits_behind s.memory a) in
    needs s BAD_BASE (has_base s.memory) (leaves s (rest ▸▸ ud2 ▸ address_behind s.memory a)))
