use Rattle.memory.specs.Mirrored.{stored}
use Rattle.std.proofs.Common.{◌≡◌, ◌+◌, ◌-◌, ◌≤◌, length}
use Rattle.dictionary.specs.Chain.{chain}
use Rattle.dictionary.proofs.counting.chain_length.Given as goal

abbrev pub invariant-loop-left : goal.invariant-loop-left
invariant-loop-left l = record {
  most : l.left ≤ 32769;
  count : (32769 - l.left) + length (chain (stored l.memory) l.left l.l) ≡ length (chain (stored l.memory) 32769 l.start);
}

abbrev pub decreases-loop-left : goal.decreases-loop-left
decreases-loop-left l = l.left
