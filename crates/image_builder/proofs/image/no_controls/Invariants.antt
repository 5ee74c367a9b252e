use Rattle.std.proofs.Common.{◌≡◌}
use Rattle.image_builder.specs.Items.{zero_bytes}
use Rattle.image_builder.proofs.image.no_controls.Given as goal

abbrev pub invariant-loop : goal.invariant-loop
invariant-loop l = l.cells.items ≡ zero_bytes l.counter
