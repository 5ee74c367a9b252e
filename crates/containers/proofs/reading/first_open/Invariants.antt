use Rattle.std.proofs.Common.{◌≡◌, ◌-◌}
use Rattle.containers.specs.Containers.{first_open, sectors}
use Rattle.containers.proofs.reading.first_open.Given as goal

abbrev pub invariant-loop-at : goal.invariant-loop-at
invariant-loop-at l = first_open l.layout l.container 0 (sectors l.layout l.container) ≡ first_open l.layout l.container l.at (sectors l.layout l.container - l.at)
