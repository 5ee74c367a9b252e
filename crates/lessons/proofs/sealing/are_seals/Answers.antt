use Rattle.std.proofs.Common.{rules, below_more}
use Rattle.lessons.proofs.sealing.are_seals.Goals as goal

pub loop-index-preserved : goal.loop-index-preserved
loop-index-preserved c = below_more _ _ c.loop-index.invariant (search rules)
