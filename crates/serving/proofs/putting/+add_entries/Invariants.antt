use Rattle.std.proofs.Common.{length}
use Rattle.serving.proofs.putting.+add_entries.Given as goal

-- the cells that are left
abbrev pub decreases-add_entries : goal.decreases-add_entries
decreases-add_entries l = length l.cells.now
