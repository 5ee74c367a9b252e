use Rattle.std.proofs.Common.{◌≡◌, ◌≤◌, length, take}
use Rattle.screen_text.specs.Bytes.{trimmed}
use Rattle.screen_text.proofs.bytes.trimmed.Given as goal

-- what is passed over are blanks
abbrev pub invariant-loop-end : goal.invariant-loop-end
invariant-loop-end l = record {
  within : l.end ≤ length l.line;
  same : trimmed (take l.end l.line) ≡ trimmed l.line;
}

abbrev pub decreases-loop-end : goal.decreases-loop-end
decreases-loop-end l = l.end
