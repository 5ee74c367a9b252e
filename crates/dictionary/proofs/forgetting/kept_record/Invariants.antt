use Rattle.std.proofs.Common.{◌≡◌}
use Rattle.memory.specs.Bytes.{cell}
use Rattle.dictionary.specs.Order.{records}
use Rattle.dictionary.specs.Forgetting.{first_below}
use Rattle.dictionary.proofs.forgetting.kept_record.Given as goal

abbrev pub invariant-loop-left : goal.invariant-loop-left
invariant-loop-left l = first_below l.t (records l.before l.left l.r) ≡ first_below l.t (records l.before 32769 (cell l.before 52))

abbrev pub decreases-loop-left : goal.decreases-loop-left
decreases-loop-left l = l.left
