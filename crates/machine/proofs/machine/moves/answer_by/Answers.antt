use Rattle.std.proofs.Common.{Some, ap, refl, ◌∙◌}
use Rattle.memory.specs.Mirrored.{stored}
use Rattle.machine.specs.Registers.{state_of}
use Rattle.machine.specs.State.{State, state_at}
use Rattle.machine.specs.declared.rest.Rest.{Rest}
use Rattle.std.proofs.Common.{rules, ◌≡◌}
use Rattle.machine.specs.declared.act.Act.{Act}
use Rattle.machine.specs.Answer.{answer_of, seen}
use Rattle.machine.proofs.Lending.{answered_lent, lent_stays}
use Rattle.machine.proofs.Places.{answer_stays}
use Rattle.machine.proofs.machine.moves.answer_by.Goals as goal

pub returns-clause-same : goal.returns-clause-same
returns-clause-same c =
    let from = c.over-machine.ensures ∙ ap (λ (r : Rest). state_at (Some c.args.memory.ghost_name) (state_of (stored c.args.memory.now) r)) c.replace-own.ensures.value in
    c.part-memory.ensures.same c.args.memory.ghost_name
    (lent_stays c.args.memory.ghost_name c.over-machine.result c.answer.new.self (state_of (stored c.args.memory.now) c.args.rest.now) from
    (ap (λ (x : State × Act). x.0.parts.place) is ∙ answer_stays c.over-machine.result (seen c.args.answer))) where
      is : (c.answer.new.self, c.unwrap-act.result) ≡ answer_of c.over-machine.result (seen c.args.answer)
      is = search rules

pub returns-clause-answered : goal.returns-clause-answered
returns-clause-answered c =
    let from = c.over-machine.ensures ∙ ap (λ (r : Rest). state_at (Some c.args.memory.ghost_name) (state_of (stored c.args.memory.now) r)) c.replace-own.ensures.value in
    answered_lent c.args.memory.ghost_name c.over-machine.result c.answer.new.self (state_of (stored c.args.memory.now) c.args.rest.now) (state_of (stored c.part-memory.result.memory.now) c.part-memory.result.rest) (seen c.args.answer) _ refl from c.part-memory.ensures.state is where
      is : (c.answer.new.self, c.unwrap-act.result) ≡ answer_of c.over-machine.result (seen c.args.answer)
      is = search rules
