use Rattle.std.proofs.Common.{◌≡◌, ◌+◌, ◌≤◌, length}
use Rattle.number_text.specs.Digits.{expansion}
use Rattle.number_text.proofs.picture.digit_count.Given as goal

abbrev pub invariant-loop-rest : goal.invariant-loop-rest
invariant-loop-rest l = record {
  some : 1 ≤ l.count;
  count : l.count + length (expansion l.base l.rest) ≡ 1 + length (expansion l.base l.number);
}

abbrev pub decreases-loop-rest : goal.decreases-loop-rest
decreases-loop-rest l = l.rest
