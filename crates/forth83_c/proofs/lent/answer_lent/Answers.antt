use Rattle.std.proofs.Common.{rules, ◌≡◌, Some, refl, ap, ◌∙◌}
use Rattle.memory.specs.Mirrored.{stored}
use Rattle.machine.specs.declared.act.Act.{Act}
use Rattle.machine.specs.Answer.{answer_of, seen}
use Rattle.machine.specs.State.{State, state_at}
use Rattle.machine.proofs.Places.{answer_stays}
use Rattle.machine.specs.Registers.{state_of}
use Rattle.machine.proofs.Lending.{lent_stays}
use Rattle.forth83_c.proofs.Lending.{answered_lent, event_lent}
use Rattle.forth83_c.proofs.lent.answer_lent.Goals as goal

pub returns-clause-same : goal.returns-clause-same
returns-clause-same c =
    c.part-memory.ensures.same c.args.memory.ghost_name
    (lent_stays c.args.memory.ghost_name c.over-machine.result c.answer.new.self (state_of (stored c.args.memory.now) c.args.rest) from
    (ap (λ (x : State × Act). x.0.parts.place) is ∙ answer_stays c.over-machine.result (seen c.args.answer))) where
      from : c.over-machine.result ≡ state_at (Some c.args.memory.ghost_name) (state_of (stored c.args.memory.now) c.args.rest)
      from = c.over-machine.ensures

      is : (c.answer.new.self, c.unwrap-act.result) ≡ answer_of c.over-machine.result (seen c.args.answer)
      is = search rules

pub returns-clause-answered : goal.returns-clause-answered
returns-clause-answered c =
    answered_lent c.args.memory.ghost_name c.over-machine.result c.answer.new.self (state_of (stored c.args.memory.now) c.args.rest) (state_of (stored c.part-memory.result.memory.now) c.part-memory.result.rest) (seen c.args.answer) refl from c.part-memory.ensures.state (ap (λ (x : State × Act). x.0) is) where
      from : c.over-machine.result ≡ state_at (Some c.args.memory.ghost_name) (state_of (stored c.args.memory.now) c.args.rest)
      from = c.over-machine.ensures

      is : (c.answer.new.self, c.unwrap-act.result) ≡ answer_of c.over-machine.result (seen c.args.answer)
      is = search rules

pub returns-clause-event : goal.returns-clause-event
returns-clause-event c =
    event_lent c.args.memory.ghost_name c.over-machine.result (state_of (stored c.args.memory.now) c.args.rest) (seen c.args.answer) (c.answer.new.self, c.unwrap-act.result) refl from is where
      from : c.over-machine.result ≡ state_at (Some c.args.memory.ghost_name) (state_of (stored c.args.memory.now) c.args.rest)
      from = c.over-machine.ensures

      is : (c.answer.new.self, c.unwrap-act.result) ≡ answer_of c.over-machine.result (seen c.args.answer)
      is = search rules
