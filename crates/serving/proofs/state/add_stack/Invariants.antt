use Rattle.std.proofs.Common.{◌≡◌, ◌+◌, ◌++◌, reverse, take}
use Rattle.arrayvec.specs.ArrayVec.{array_vec_len}
use Rattle.serving.proofs.state.add_stack.Given as goal

-- the cells below this place were added
abbrev pub invariant-loop-place : goal.invariant-loop-place
invariant-loop-place l = record {
  added : l.cells.items ≡ l.fn.cells.items ++ take l.place (reverse l.stack);
  count : array_vec_len l.cells ≡ array_vec_len l.fn.cells + l.place;
}
