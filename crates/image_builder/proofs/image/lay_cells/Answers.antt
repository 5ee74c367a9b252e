use Rattle.std.proofs.Common.{◌++◌, take, get_or, sym, ap, ◌∙◌, append_assoc, add-one}
use Rattle.memory.specs.Bytes.{cell_bytes}
use Rattle.image_builder.specs.State.{all_cells}
use Rattle.image_builder.proofs.Looping.{cells_more}
use Rattle.image_builder.proofs.image.lay_cells.Goals as goal

pub loop-x-preserved : goal.loop-x-preserved
loop-x-preserved c =
    let i = c.loop-x.x-index in
    let xs = c.args.cells.now in
    rw add-one (c.in_ok-lay_cell.ensures.bytes ∙ ap (λ l. l ++ cell_bytes (get_or xs i 0)) c.loop-x.invariant ∙ append_assoc c.args.bytes.now.items (all_cells (take i xs)) (cell_bytes (get_or xs i 0)) ∙ ap (λ l. c.args.bytes.now.items ++ l) (sym (cells_more xs i 0 c.loop-x-test.true)))
