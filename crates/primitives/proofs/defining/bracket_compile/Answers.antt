use Rattle.std.proofs.Common.{ap, sym, ◌∙◌}
use Rattle.memory.specs.Bytes.{cell_bytes}
use Rattle.primitives.specs.Defining.{lays_past}
use Rattle.primitives.proofs.defining.bracket_compile.Goals as goal

pub returns-in-Ok : goal.returns-in-Ok
returns-in-Ok c =
    c.lay_past.ensures ∙ ap (lays_past c.read_word.new.parts c.in-Ok.word) c.cell_bytes.ensures.value
    ∙ sym (c.in-Ok.ensures (λ t word w. lays_past t word (cell_bytes w)))

pub returns-in-Err : goal.returns-in-Err
returns-in-Err c = sym (c.in-Err.ensures (λ t word w. lays_past t word (cell_bytes w)))
