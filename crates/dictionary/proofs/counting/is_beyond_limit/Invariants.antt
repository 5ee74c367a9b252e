use Rattle.memory.specs.Mirrored.{stored}
use Rattle.std.proofs.Common.{◌≡◌, ◌+◌, ◌≤◌}
use Rattle.memory.specs.Bytes.{cell}
use Rattle.dictionary.specs.Order.{reached}
use Rattle.dictionary.proofs.counting.is_beyond_limit.Given as goal

abbrev pub invariant-loop-left : goal.invariant-loop-left
invariant-loop-left l = record {
  most : l.count ≤ 32768;
  count : l.count + reached (stored l.memory) l.left l.r ≡ reached (stored l.memory) 32769 (cell (stored l.memory) 52);
}

abbrev pub decreases-loop-left : goal.decreases-loop-left
decreases-loop-left l = l.left
