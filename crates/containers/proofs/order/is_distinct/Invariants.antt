use Rattle.std.proofs.Common.{◌≡◌, drop}
use Rattle.containers.specs.Layouts.{distinct}
use Rattle.containers.proofs.order.is_distinct.Given as goal

abbrev pub invariant-loop-index : goal.invariant-loop-index
invariant-loop-index l = distinct l.numbers ≡ distinct (drop l.index l.numbers)
