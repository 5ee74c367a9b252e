use Rattle.std.proofs.Common.{◌≡◌, ◌≤◌, vec_capacity}
use Rattle.serving.specs.Taking.{ArePassed, HasServedSome}
use Rattle.serving.proofs.serving.serve.Given as goal

-- the frames so far were served
abbrev pub invariant-loop : goal.invariant-loop
invariant-loop g l = record {
  served : HasServedSome l.counter l.count l.fn.machine l.machine (g.D.Device.calls l.fn.device) (g.D.Device.calls l.device) (g.R.Input.reads l.fn.reader) (g.R.Input.reads l.reader) (g.W.Output.sent l.fn.writer) (g.W.Output.sent l.writer);
  failed : g.W.Output.failed l.writer ≡ g.W.Output.failed l.fn.writer;
  passed : ArePassed (g.W.Output.passed l.fn.writer) (g.W.Output.passed l.writer) (g.W.Output.sent l.fn.writer) (g.W.Output.sent l.writer);
  reader : g.R.Input.failed l.reader ≡ g.R.Input.failed l.fn.reader;
  room : 65535 ≤ vec_capacity l.body;
}
