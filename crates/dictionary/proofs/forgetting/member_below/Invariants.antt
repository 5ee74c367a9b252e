use Rattle.std.proofs.Common.{◌≡◌}
use Rattle.memory.specs.Bytes.{cell}
use Rattle.dictionary.specs.Chain.{chain}
use Rattle.dictionary.specs.Forgetting.{first_below}
use Rattle.dictionary.proofs.forgetting.member_below.Given as goal

abbrev pub invariant-loop-left : goal.invariant-loop-left
invariant-loop-left l = first_below l.t (chain l.before l.left l.l) ≡ first_below l.t (chain l.before 32769 (cell l.before l.head))

abbrev pub decreases-loop-left : goal.decreases-loop-left
decreases-loop-left l = l.left
