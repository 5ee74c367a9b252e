use Rattle.std.proofs.Common.{arith, refl}
use Rattle.forth83_c.proofs.Turning.{none_driven}
use Rattle.forth83_c.proofs.driving.drive.Goals as goal

pub loop-stop-init : goal.loop-stop-init
loop-stop-init c = record {
  driven = none_driven c.args.calling c.args.faults c.args.machine.now c.args.typed.now c.args.limit;
  left = omega arith;
  read = omega arith;
  beyond = refl;
  shown = omega arith;
  len = refl;
}
