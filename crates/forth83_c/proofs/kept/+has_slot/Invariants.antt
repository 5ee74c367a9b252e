use Rattle.std.proofs.Common.{length}
use Rattle.forth83_c.proofs.kept.+has_slot.Given as goal

abbrev pub decreases-has_slot : goal.decreases-has_slot
decreases-has_slot l = length l.buffers.now
