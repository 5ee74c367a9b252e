use Rattle.memory.specs.Mirrored.{stored}
use Rattle.std.proofs.Common.{◌≡◌, ◌-◌, ◌≤◌}
use Rattle.memory.specs.Bytes.{bytes}
use Rattle.input_source.specs.Words.{next_delimiter}
use Rattle.input_source.proofs.words.next_delimiter.Given as goal

abbrev pub invariant-loop-i : goal.invariant-loop-i
invariant-loop-i l = record {
  above : l.from ≤ l.i;
  within : l.i ≤ l.size;
  same : next_delimiter (bytes (stored l.memory) l.at l.size) l.i l.delimiter ≡ next_delimiter (bytes (stored l.memory) l.at l.size) l.from l.delimiter;
}

abbrev pub decreases-loop-i : goal.decreases-loop-i
decreases-loop-i l = l.size - l.i
