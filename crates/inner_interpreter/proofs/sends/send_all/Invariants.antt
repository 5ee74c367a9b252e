use Rattle.std.proofs.Common.{length, ◌-◌, ◌≡◌, ◌≤◌, take}
use Rattle.std.specs.Io.KnownBytes.{Appends}
use Rattle.inner_interpreter.proofs.sends.send_all.Given as goal

-- what was sent so far is a front of the bytes
abbrev pub invariant-loop-sent : goal.invariant-loop-sent
invariant-loop-sent g l = record {
  within : l.sent ≤ length l.bytes;
  told : Appends (g.W.Output.sent l.fn.writer) (g.W.Output.sent l.writer) (take l.sent l.bytes);
  mark : g.W.Output.failed l.writer ≡ g.W.Output.failed l.fn.writer;
}

abbrev pub decreases-loop-sent : goal.decreases-loop-sent
decreases-loop-sent g l = length l.bytes - l.sent
