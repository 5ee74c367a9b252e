use Rattle.std.proofs.Common.{ap}
use Rattle.machine_parts.specs.declared.parts.Span.{Span}
use Rattle.memory.specs.Mirrored.{stored}
use Rattle.machine.specs.Registers.{state_of}
use Rattle.forth83_c.proofs.Same.{kept_faults, some_of}
use Rattle.forth83_c.proofs.running.run.Goals as goal

pub returns-clause-ran : goal.returns-clause-ran
returns-clause-ran c = λ _. record {
  before = state_of (stored c.args.kept.now.memory) c.in-Some.rest;
  after = state_of (stored c.drive_lent-driven.result.memory.now) c.unwrap.result;
  was_kept = c.in-Some.ensures;
  is_kept = kept_faults _ _ _ c.keep.ensures.kept;
  stop = c.drive_lent-driven.result.stop;
  driven = some_of _ _ _ c.unwrap.ensures c.drive_lent-driven.ensures.driven;
  call = record { is_called = c.keep.ensures.beside.call.is_called; aside = c.keep.ensures.beside.call.aside };
  stopped = some_of _ _ _ c.unwrap.ensures c.drive_lent-driven.ensures.stopped;
  why = c.code.ensures;
  at = ap (λ (s : Span). s.at) c.span-span.ensures;
  len = ap (λ (s : Span). s.len) c.span-span.ensures;
  read = c.drive_lent-driven.ensures.read;
  fits = c.drive_lent-driven.ensures.shown;
  fewer = c.drive_lent-driven.ensures.left;
}
