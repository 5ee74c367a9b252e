use Rattle.std.proofs.Common.{◌≡◌, ◌≤◌, length, take, drop}
use Rattle.inner_interpreter.specs.Worlds.{rounds_left}
use Rattle.forth83_c.specs.Driven.{IsDriven}
use Rattle.forth83_c.proofs.driving.drive.Given as goal

-- some rounds were made
abbrev pub invariant-loop-stop : goal.invariant-loop-stop
invariant-loop-stop l = record {
  driven : IsDriven l.calling l.fn.faults l.fn.machine l.typed l.fn.limit l.course.faults l.machine (drop l.course.read l.typed) (take l.course.shown l.out) l.course.left;
  left : l.course.left ≤ l.fn.limit;
  read : l.course.read ≤ length l.typed;
  beyond : drop l.course.shown l.out ≡ drop l.course.shown l.fn.out;
  shown : l.course.shown ≤ length l.out;
  len : length l.out ≡ length l.fn.out;
}

abbrev pub decreases-loop-stop : goal.decreases-loop-stop
decreases-loop-stop l = rounds_left l.course.left l.machine.wait
