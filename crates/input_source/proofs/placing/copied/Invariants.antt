use Rattle.memory.specs.Mirrored.{stored}
use Rattle.std.proofs.Common.{◌≡◌, take, length}
use Rattle.memory.specs.Bytes.{bytes}
use Rattle.input_source.proofs.placing.copied.Given as goal

abbrev pub invariant-loop-i : goal.invariant-loop-i
invariant-loop-i l = record {
  len : length l.copy ≡ 256;
  same : take l.i l.copy ≡ take l.i (bytes (stored l.memory) l.at l.n);
}
