use Rattle.std.proofs.Common.{length}
use Rattle.forth83_c.proofs.kept.+can_all_stand.Given as goal

abbrev pub decreases-can_all_stand : goal.decreases-can_all_stand
decreases-can_all_stand l = length l.buffers.now
