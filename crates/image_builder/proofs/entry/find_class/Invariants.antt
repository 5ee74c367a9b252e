use Rattle.std.proofs.Common.{◌≡◌, ◌≤◌, length, take}
use Rattle.image_builder.specs.Names.{newest_first, newest_of}
use Rattle.image_builder.proofs.entry.find_class.Given as goal

abbrev pub invariant-loop-i : goal.invariant-loop-i
invariant-loop-i l = (l.i ≤ length l.names) × (newest_of l.vocabulary l.class (newest_first l.names) ≡ newest_of l.vocabulary l.class (newest_first (take l.i l.names)))

abbrev pub decreases-loop-i : goal.decreases-loop-i
decreases-loop-i l = l.i
