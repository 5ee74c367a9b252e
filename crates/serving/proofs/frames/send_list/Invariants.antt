use Rattle.std.proofs.Common.{◌≡◌, take}
use Rattle.std.specs.Io.KnownBytes.{Appends}
use Rattle.serving.specs.Registers.{cells_bytes}
use Rattle.serving.proofs.frames.send_list.Given as goal

-- the cells so far were sent
abbrev pub invariant-loop-cell : goal.invariant-loop-cell
invariant-loop-cell g l = record {
  sent : Appends (g.W.Output.sent l.fn.writer) (g.W.Output.sent l.writer) (cells_bytes (take l.cell-index l.cells));
  mark : g.W.Output.failed l.writer ≡ g.W.Output.failed l.fn.writer;
}
