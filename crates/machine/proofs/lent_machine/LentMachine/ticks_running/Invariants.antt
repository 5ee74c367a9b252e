use Rattle.std.proofs.Common.{◌≡◌, ◌-◌, ◌≤◌}
use Rattle.machine.specs.Onward.{ran_from}
use Rattle.machine.specs.Tick.{Runs}
use Rattle.machine.proofs.lent_machine.LentMachine.ticks_running.Given as goal

-- so far all ticks were quiet, and what is left of the stretch is the whole one
abbrev pub invariant-loop-done : goal.invariant-loop-done
invariant-loop-done l = record {
  runs : Runs l.self;
  left : l.done ≤ l.n;
  same : ran_from l.done (l.n - l.done) l.self.parts ≡ ran_from 0 l.n l.fn.self.parts;
}

abbrev pub decreases-loop-done : goal.decreases-loop-done
decreases-loop-done l = l.n - l.done
