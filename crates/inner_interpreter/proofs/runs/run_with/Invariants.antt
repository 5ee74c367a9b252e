use Rattle.std.proofs.Common.{◌≡◌, ◌≤◌, ◌-◌, true, vec_capacity}
use Rattle.inner_interpreter.specs.Moves.{logs}
use Rattle.inner_interpreter.specs.Runs.{World}
use Rattle.inner_interpreter.specs.Served.{HasNotFailed}
use Rattle.inner_interpreter.specs.Tracing.{MadeTraced}
use Rattle.inner_interpreter.specs.Worlds.{IsAt, rounds_left}
use Rattle.inner_interpreter.proofs.Tracked.{HasTraced}
use Rattle.inner_interpreter.proofs.runs.run_with.Given as goal

-- some rounds of the run were made
abbrev pub invariant-loop-cause : goal.invariant-loop-cause
invariant-loop-cause g l = record {
  room : 65535 ≤ vec_capacity l.line;
  reader : g.R.Input.failed l.reader ≡ g.R.Input.failed l.fn.reader;
  writer : g.W.Output.failed l.writer ≡ g.W.Output.failed l.fn.writer;
  trace : g.T.Output.failed l.trace ≡ g.T.Output.failed l.fn.trace;
  few : l.left ≤ l.fn.limit;
  read : HasNotFailed l.fn.machine → HasNotFailed l.machine;
  traced : HasTraced (g.N.Tracer.extent l.tracer) (g.N.Tracer.line l.tracer) l.fn.machine l.machine (logs (g.D.Device.calls l.fn.device) (g.W.Output.sent l.fn.writer) (g.R.Input.reads l.fn.reader)) (logs (g.D.Device.calls l.device) (g.W.Output.sent l.writer) (g.R.Input.reads l.reader)) true (l.fn.limit - l.left) (g.T.Output.sent l.fn.trace) (g.T.Output.sent l.trace);
  made : (w : World) → IsAt w l.fn.machine (g.R.Input.unread l.fn.reader) (g.D.Device.disk l.fn.device) (g.W.Output.sent l.fn.writer) l.fn.limit
      → MadeTraced (g.N.Tracer.extent l.tracer) (g.N.Tracer.line l.tracer) w l.machine (g.R.Input.unread l.reader) (g.D.Device.disk l.device) (g.W.Output.sent l.writer) l.left (g.T.Output.sent l.fn.trace) (g.T.Output.sent l.trace);
}

abbrev pub decreases-loop-cause : goal.decreases-loop-cause
decreases-loop-cause g l = rounds_left l.left l.machine.wait
