use Rattle.std.proofs.Common.{ap, sym, ◌∙◌}
use Rattle.compiling_words.specs.Code.{literal_code}
use Rattle.machine_parts.specs.Whole.{Whole}
use Rattle.primitives.specs.Defining.{lays_past}
use Rattle.primitives.proofs.defining.bracket_tick.Goals as goal

pub returns-in-Ok : goal.returns-in-Ok
returns-in-Ok c =
    let p = c.read_word.new.parts in
    c.lay_past.ensures ∙ ap (lays_past p c.in-Ok.word) c.literal_code-code.ensures.value
    ∙ ap (λ (s : Whole). lays_past p c.in-Ok.word (literal_code s.memory c.in-Ok.w)) c.parts.view_is
    ∙ sym (c.in-Ok.ensures (λ t word w. lays_past t word (literal_code t.memory w)))

pub returns-in-Err : goal.returns-in-Err
returns-in-Err c = sym (c.in-Err.ensures (λ t word w. lays_past t word (literal_code t.memory w)))
