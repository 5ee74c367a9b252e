use Rattle.std.proofs.Common.{length}
use Rattle.forth83_c.proofs.kept.+slots_differ.Given as goal

abbrev pub decreases-slots_differ : goal.decreases-slots_differ
decreases-slots_differ l = length l.buffers.now
