use Rattle.std.proofs.Common.{rules, ap, ◌∙◌, refl}
use Rattle.memory.specs.Mirrored.{stored}
use Rattle.machine.specs.Registers.{state_of}
use Rattle.machine.specs.State.{state_at}
use Rattle.machine.specs.declared.rest.Rest.{Rest}
use Rattle.machine.proofs.Lending.{lent_stays}
use Rattle.std.proofs.Common.{Some}
use Rattle.inner_interpreter.proofs.Anywhere.{runs_lent, runs_stay}
use Rattle.inner_interpreter.proofs.machine_runs.run_by.Goals as goal

pub returns-clause-same : goal.returns-clause-same
returns-clause-same g c =
    let from = c.over-machine.ensures ∙ ap (λ (r : Rest). state_at (Some c.args.memory.ghost_name) (state_of (stored c.args.memory.now) r)) c.replace-own.ensures.value in
    c.part-memory.ensures.same c.args.memory.ghost_name
    (lent_stays c.args.memory.ghost_name c.over-machine.result c.run_with-stop.new.machine (state_of (stored c.args.memory.now) c.args.rest.now) from
    (runs_stay _ _ _ _ _ _ _ _ _ _ c.run_with-stop.ensures.runs))

pub returns-clause-runs : goal.returns-clause-runs
returns-clause-runs g c =
    let from = c.over-machine.ensures ∙ ap (λ (r : Rest). state_at (Some c.args.memory.ghost_name) (state_of (stored c.args.memory.now) r)) c.replace-own.ensures.value in
    runs_lent _ _ c.requires.placeless c.args.memory.ghost_name c.over-machine.result c.run_with-stop.new.machine (state_of (stored c.args.memory.now) c.args.rest.now) (state_of (stored c.part-memory.result.memory.now) c.part-memory.result.rest) _ _ _ _ _ _ refl from c.part-memory.ensures.state c.run_with-stop.ensures.runs
