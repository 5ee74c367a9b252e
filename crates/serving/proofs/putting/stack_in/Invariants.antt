use Rattle.std.proofs.Common.{◌≡◌, length, reverse, take}
use Rattle.serving.proofs.putting.stack_in.Given as goal

-- the cells so far
abbrev pub invariant-loop-cell : goal.invariant-loop-cell
invariant-loop-cell l = record {
  cells : reverse l.stack ≡ take l.cell-index l.cells;
  count : length l.stack ≡ l.cell-index;
}
