use Rattle.std.proofs.Common.{◌≡◌, Some, None}
use Rattle.block_buffers.specs.Disks.{Disk}
use Rattle.machine.specs.Tick.{Runs}
use Rattle.metacompiler.specs.Rounds.{rounds}
use Rattle.metacompiler.specs.Moved.{stage}
use Rattle.metacompiler.specs.Making.{IsSoFar, IsLed}
use Rattle.metacompiler.proofs.rounds.make_rounds.Given as goal

-- what the rounds come to is what they come to from here; and moves led here
abbrev pub invariant-loop-left : goal.invariant-loop-left
invariant-loop-left g l = record {
  told : (d : Disk) → g.D.Device.disk l.fn.device ≡ Some d → Runs l.fn.machine → IsSoFar (rounds l.fn.left l.fn.machine.parts d) l.machine (g.D.Device.disk l.device) l.left;
  moved : Runs l.fn.machine → IsLed (stage l.fn.machine (g.D.Device.calls l.fn.device) l.fn.left) (stage l.machine (g.D.Device.calls l.device) l.left) None;
}

abbrev pub decreases-loop-left : goal.decreases-loop-left
decreases-loop-left g l = l.left
