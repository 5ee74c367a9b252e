use Rattle.memory.specs.Mirrored.{stored}
use Rattle.std.proofs.Common.{◌≡◌, ◌-◌, ◌≤◌}
use Rattle.memory.specs.Bytes.{bytes}
use Rattle.input_source.specs.Words.{word_start}
use Rattle.input_source.proofs.words.word_start.Given as goal

abbrev pub invariant-loop-i : goal.invariant-loop-i
invariant-loop-i l = record {
  within : l.i ≤ l.size;
  same : word_start (bytes (stored l.memory) l.at l.size) l.i l.delimiter ≡ word_start (bytes (stored l.memory) l.at l.size) l.from l.delimiter;
}

abbrev pub decreases-loop-i : goal.decreases-loop-i
decreases-loop-i l = l.size - l.i
