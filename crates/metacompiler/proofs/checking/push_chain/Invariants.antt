use Rattle.memory.specs.Mirrored.{stored}
use Rattle.metacompiler.specs.Residency.{Walked}
use Rattle.metacompiler.proofs.checking.push_chain.Given as goal

-- the headers so far, and those that come next
abbrev pub invariant-loop-left : goal.invariant-loop-left
invariant-loop-left l = Walked (stored l.memory) l.head l.fn.headers.items l.headers.items l.l l.left

abbrev pub decreases-loop-left : goal.decreases-loop-left
decreases-loop-left l = l.left
