use Rattle.memory.specs.Mirrored.{stored}
use Rattle.std.proofs.Common.{◌≡◌, ◌+◌, ◌-◌, ◌≤◌, drop, length}
use Rattle.memory.specs.Bytes.{bytes}
use Rattle.number_text.specs.Digits.{leading_digits, continued}
use Rattle.number_text.proofs.conversion.converted.Given as goal

abbrev pub invariant-loop-i : goal.invariant-loop-i
invariant-loop-i l = record {
  most : l.i ≤ 65535;
  run : length (leading_digits l.base (bytes (stored l.memory) l.at 65535)) ≡ l.i + length (leading_digits l.base (drop l.i (bytes (stored l.memory) l.at 65535)));
  value : continued l.base l.value (leading_digits l.base (drop l.i (bytes (stored l.memory) l.at 65535))) ≡ continued l.base l.number (leading_digits l.base (bytes (stored l.memory) l.at 65535));
}

abbrev pub decreases-loop-i : goal.decreases-loop-i
decreases-loop-i l = 65535 - l.i
