use Rattle.std.proofs.Common.{◌≡◌, ◌+◌, ◌*◌, ◌++◌, take}
use Rattle.std.specs.List.{flat_map}
use Rattle.arrayvec.specs.ArrayVec.{array_vec_len}
use Rattle.serving.specs.Registers.{entry_cells}
use Rattle.serving.proofs.state.add_buffers.Given as goal

-- the first buffers were added
abbrev pub invariant-loop-place : goal.invariant-loop-place
invariant-loop-place l = record {
  added : l.cells.items ≡ l.fn.cells.items ++ flat_map entry_cells (take l.place l.buffers);
  count : array_vec_len l.cells ≡ array_vec_len l.fn.cells + 4 * l.place;
}
