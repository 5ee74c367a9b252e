use Rattle.std.proofs.Common.{◌≡◌, ◌++◌, ◌*◌, ◌-◌, length}
use Rattle.containers.specs.Containers.{blank_sectors, new_container, tracks_for}
use Rattle.containers.proofs.writing.new_container.Given as goal

abbrev pub invariant-loop-at : goal.invariant-loop-at
invariant-loop-at l = l.container.items ++ blank_sectors l.layout (tracks_for l.layout l.bytes * length l.layout.order - l.at) ≡ new_container l.layout l.bytes
