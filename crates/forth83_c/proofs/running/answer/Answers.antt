use Rattle.std.proofs.Common.{rules}
use Rattle.memory.specs.Mirrored.{stored}
use Rattle.machine.specs.Registers.{state_of}
use Rattle.forth83_c.proofs.Same.{kept_faults, some_of}
use Rattle.forth83_c.proofs.running.answer.Goals as goal

pub returns-clause-answered : goal.returns-clause-answered
returns-clause-answered c = λ _. record {
  before = state_of (stored c.args.kept.now.memory) c.in-Some.rest;
  after = state_of (stored c.answer_lent-answered.result.memory.now) c.unwrap.result;
  was_kept = c.in-Some.ensures;
  is_kept = kept_faults _ _ _ c.keep.ensures.kept;
  goes = search rules;
  fits = search rules;
  is = some_of _ _ _ c.unwrap.ensures c.answer_lent-answered.ensures.answered;
  faults = search rules;
  call = record { is_called = c.keep.ensures.beside.call.is_called; aside = c.keep.ensures.beside.call.aside };
}
