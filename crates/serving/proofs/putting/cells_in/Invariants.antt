use Rattle.std.proofs.Common.{◌≡◌, ◌*◌, take}
use Rattle.arrayvec.specs.ArrayVec.{array_vec_len}
use Rattle.serving.specs.Registers.{cells_bytes}
use Rattle.serving.proofs.putting.cells_in.Given as goal

-- the cells so far are those of the bytes before them
abbrev pub invariant-loop-place : goal.invariant-loop-place
invariant-loop-place l = record {
  cells : cells_bytes l.cells.items ≡ take (2 * l.place) l.bytes;
  count : array_vec_len l.cells ≡ l.place;
}
