use Rattle.memory.specs.Mirrored.{stored}
use Rattle.std.proofs.Common.{◌≡◌}
use Rattle.dictionary.specs.Forgetting.{cut_all}
use Rattle.dictionary.proofs.forgetting.cut_all.Given as goal

abbrev pub invariant-loop-left : goal.invariant-loop-left
invariant-loop-left l = cut_all l.before l.t l.left l.r (stored l.memory) ≡ cut_all l.before l.t 32769 l.start (stored l.fn.memory)

abbrev pub decreases-loop-left : goal.decreases-loop-left
decreases-loop-left l = l.left
