use Rattle.std.proofs.Common.{◌≡◌, ◌++◌, take}
use Rattle.image_builder.specs.State.{all_cells}
use Rattle.image_builder.proofs.image.lay_cells.Given as goal

abbrev pub invariant-loop-x : goal.invariant-loop-x
invariant-loop-x l = l.bytes.items ≡ l.fn.bytes.items ++ all_cells (take l.x-index l.cells)
