use Rattle.std.proofs.Common.{◌≡◌, ◌+◌, ◌-◌, Some}
use Rattle.block_buffers.specs.Disks.{Disk}
use Rattle.machine.specs.Tick.{Runs}
use Rattle.metacompiler.specs.Rounds.{screens}
use Rattle.metacompiler.specs.Moved.{stage, AreRead}
use Rattle.metacompiler.specs.Making.{AreSoFar, IsReadOn}
use Rattle.metacompiler.proofs.load.load_screens.Given as goal

-- what the screens come to is what those that follow come to from here, by moves too
abbrev pub invariant-loop-screen : goal.invariant-loop-screen
invariant-loop-screen g l = record {
  told : (d : Disk) → g.D.Device.disk l.fn.device ≡ Some d → Runs l.fn.machine → AreSoFar l.interpret (l.to + 1 - l.screen) l.screen (screens l.interpret (l.to + 1 - l.from) l.from l.fn.left l.fn.machine.parts d) l.machine (g.D.Device.disk l.device) l.left;
  moved : Runs l.fn.machine → IsReadOn l.interpret (l.to + 1 - l.screen) l.screen (stage l.machine (g.D.Device.calls l.device) l.left) (AreRead l.interpret (l.to + 1 - l.from) l.from (stage l.fn.machine (g.D.Device.calls l.fn.device) l.fn.left));
}
