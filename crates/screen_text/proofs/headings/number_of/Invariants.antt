use Rattle.std.proofs.Common.{◌≡◌, ◌≤◌, take}
use Rattle.screen_text.specs.Reading.{number_of}
use Rattle.screen_text.proofs.headings.number_of.Given as goal

abbrev pub invariant-loop-digit : goal.invariant-loop-digit
invariant-loop-digit l = record {
  value : l.number ≡ number_of (take l.digit-index l.digits);
  bound : l.number ≤ 65536;
}
