use Rattle.std.proofs.Common.{rules}
use Rattle.memory.specs.Bytes.{cell_bytes}
use Rattle.serving.proofs.States.{piece_cut}
use Rattle.serving.proofs.frames.send_list.Goals as goal

pub returns-in-Err-clause-err : goal.returns-in-Err-clause-err
returns-in-Err-clause-err g c = piece_cut cell_bytes c.args.cells.now c.loop-cell.cell-index 0 _ _ _ (search rules) c.loop-cell.invariant.sent (search rules)
