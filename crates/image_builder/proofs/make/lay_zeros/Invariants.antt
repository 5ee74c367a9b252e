use Rattle.std.proofs.Common.{◌≡◌, ◌++◌}
use Rattle.image_builder.specs.Items.{zero_bytes}
use Rattle.image_builder.proofs.make.lay_zeros.Given as goal

abbrev pub invariant-loop : goal.invariant-loop
invariant-loop l = l.image.items ≡ l.fn.image.items ++ zero_bytes l.counter
