use Rattle.std.proofs.Common.{rules, arith, ap, ◌∙◌, ◌*◌}
use Rattle.serving.specs.Registers.{cells_bytes}
use Rattle.serving.proofs.Restoring.{bytes_more}
use Rattle.serving.proofs.putting.cells_in.Goals as goal

pub loop-place-preserved : goal.loop-place-preserved
loop-place-preserved c = record {
  cells = ap cells_bytes c.push.ensures.items ∙ bytes_more c.loop-place.place c.args.bytes.now c.loop-place.cells.items c.cell_in.result (omega (arith, c.type_inv.bytes (2 * c.loop-place.place))) (omega (arith, c.loop-place-test.true)) c.cell_in.ensures c.loop-place.invariant.cells;
  count = search rules;
}
