use Rattle.std.proofs.Common.{◌≡◌, ◌-◌, ◌+◌, ◌*◌, ◌≤◌, ◌<◌}
use Rattle.inner_interpreter.specs.Worlds.{waiting}
use Rattle.serving.specs.Room.{SendsFew}
use Rattle.serving.proofs.Stretch.{UnderWay}
use Rattle.serving.proofs.running.run.Given as goal

-- so far the run came, and all that it showed was sent, in frames of which few are small
abbrev pub invariant-moves : goal.invariant-moves
invariant-moves g l = record {
  way : UnderWay l.count l.limit l.fn.machine l.machine l.event l.done l.shown (g.D.Device.calls l.fn.device) (g.D.Device.calls l.device) (g.W.Output.sent l.fn.writer) (g.W.Output.sent l.writer);
  few : l.done ≤ l.limit;
  small : l.shown ≤ 67584;
  lean : l.shown < 2048 → SendsFew (4 * l.shown) (g.W.Output.sent l.fn.writer) (g.W.Output.sent l.writer);
  most : SendsFew 73820 (g.W.Output.sent l.fn.writer) (g.W.Output.sent l.writer);
  mark : g.W.Output.failed l.writer ≡ g.W.Output.failed l.fn.writer;
}

abbrev pub decreases-moves : goal.decreases-moves
decreases-moves g l = 2 * (l.limit - l.done) + waiting l.machine.wait
