use Rattle.std.proofs.Common.{◌≡◌, drop}
use Rattle.number_text.specs.Digits.{are_digits, continued}
use Rattle.number_text.proofs.digits.continued.Given as goal

abbrev pub invariant-loop-byte : goal.invariant-loop-byte
invariant-loop-byte l = record {
  digits : are_digits l.base (drop l.byte-index l.text) ≡ are_digits l.base l.text;
  value : continued l.base l.number (drop l.byte-index l.text) ≡ continued l.base l.start l.text;
}
