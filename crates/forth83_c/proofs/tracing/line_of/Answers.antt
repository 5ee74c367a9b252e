use Rattle.std.proofs.Common.{ap, ◌∙◌}
use Rattle.memory.specs.Mirrored.{stored}
use Rattle.forth83_c.proofs.There.{line_there}
use Rattle.forth83_c.proofs.tracing.line_of.Goals as goal

pub returns-in-Ok : goal.returns-in-Ok
returns-in-Ok c =
    line_there _ _ _ _ _ _ _ _ c.new-text.ensures c.over-machine.ensures (ap stored c.deref_mut.ensures.value ∙ c.in_ok-copy.ensures) c.in-Ok.ensures.ok
