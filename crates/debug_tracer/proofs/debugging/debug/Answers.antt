use Rattle.std.proofs.Common.{ap, sym, ◌∙◌}
use Rattle.dictionary.specs.Order.{headers}
use Rattle.debug_tracer.specs.Debugged.{debugged}
use Rattle.debug_tracer.proofs.Words.{of_lines}
use Rattle.debug_tracer.proofs.debugging.debug.Goals as goal

pub returns-in-Ok-run_traced-clause-debugged : goal.returns-in-Ok-run_traced-clause-debugged
returns-in-Ok-run_traced-clause-debugged g c = record {
  thread = _;
  thread_is = sym (ap (λ m. debugged m c.args.name.now) c.memory.ensures) ∙ c.in-Ok.ensures.thread;
  run = of_lines (c.in-Ok.ensures.memory ∙ c.memory.ensures) (c.in-Ok.ensures.headers ∙ ap headers c.memory.ensures) c.in-Ok-run_traced.ensures.runs;
}
