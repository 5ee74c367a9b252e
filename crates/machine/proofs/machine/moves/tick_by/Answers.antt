use Rattle.std.proofs.Common.{Some, ap, refl, ◌∙◌}
use Rattle.memory.specs.Mirrored.{stored}
use Rattle.machine.specs.Registers.{state_of}
use Rattle.machine.specs.State.{State, state_at}
use Rattle.machine.specs.declared.rest.Rest.{Rest}
use Rattle.machine.specs.declared.act.Act.{Act}
use Rattle.machine.proofs.Lending.{lent_stays, ticked_lent, ticked_stays}
use Rattle.machine.proofs.machine.moves.tick_by.Goals as goal

pub returns-clause-same : goal.returns-clause-same
returns-clause-same c =
    let from = c.over-machine.ensures ∙ ap (λ (r : Rest). state_at (Some c.args.memory.ghost_name) (state_of (stored c.args.memory.now) r)) c.replace-own.ensures.value in
    c.part-memory.ensures.same c.args.memory.ghost_name
    (lent_stays c.args.memory.ghost_name c.over-machine.result c.step-act.new.self (state_of (stored c.args.memory.now) c.args.rest.now) from
    (ap (λ (x : State × Act). x.0.parts.place) c.step-act.ensures.ticked ∙ ticked_stays c.over-machine.result.parts))

pub returns-clause-ticked : goal.returns-clause-ticked
returns-clause-ticked c =
    let from = c.over-machine.ensures ∙ ap (λ (r : Rest). state_at (Some c.args.memory.ghost_name) (state_of (stored c.args.memory.now) r)) c.replace-own.ensures.value in
    ticked_lent c.args.memory.ghost_name c.over-machine.result c.step-act.new.self (state_of (stored c.args.memory.now) c.args.rest.now) (state_of (stored c.part-memory.result.memory.now) c.part-memory.result.rest) _ refl from c.part-memory.ensures.state c.step-act.ensures.ticked
