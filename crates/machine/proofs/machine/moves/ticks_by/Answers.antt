use Rattle.std.proofs.Common.{Some, ap, refl, ◌∙◌}
use Rattle.memory.specs.Mirrored.{stored}
use Rattle.machine.specs.Registers.{state_of}
use Rattle.machine.specs.State.{State, state_at}
use Rattle.machine.specs.declared.rest.Rest.{Rest}
use Rattle.std.proofs.Common.{ℕ}
use Rattle.machine.specs.declared.act.Act.{Act}
use Rattle.machine.proofs.Lending.{lent_stays, ran_lent, ran_stays}
use Rattle.machine.proofs.Ran.{without_ip}
use Rattle.machine.proofs.machine.moves.ticks_by.Goals as goal

pub returns-clause-same : goal.returns-clause-same
returns-clause-same c =
    let from = c.over-machine.ensures ∙ ap (λ (r : Rest). state_at (Some c.args.memory.ghost_name) (state_of (stored c.args.memory.now) r)) c.replace-own.ensures.value in
    c.part-memory.ensures.same c.args.memory.ghost_name
    (lent_stays c.args.memory.ghost_name c.over-machine.result c.ticks_running-made.new.self (state_of (stored c.args.memory.now) c.args.rest.now) from
    (ap (λ (x : ℕ × State × Act). x.1.parts.place) (without_ip _ _ _ _ _ _ _ c.ticks_running-made.ensures.ran) ∙ ran_stays 0 c.args.n c.over-machine.result.parts))

pub returns-clause-ran : goal.returns-clause-ran
returns-clause-ran c =
    let from = c.over-machine.ensures ∙ ap (λ (r : Rest). state_at (Some c.args.memory.ghost_name) (state_of (stored c.args.memory.now) r)) c.replace-own.ensures.value in
    ran_lent c.args.memory.ghost_name 0 c.args.n _ c.over-machine.result c.ticks_running-made.new.self (state_of (stored c.args.memory.now) c.args.rest.now) (state_of (stored c.part-memory.result.memory.now) c.part-memory.result.rest) _ refl from c.part-memory.ensures.state (without_ip _ _ _ _ _ _ _ c.ticks_running-made.ensures.ran)
