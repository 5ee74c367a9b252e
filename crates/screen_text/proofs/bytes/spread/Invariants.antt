use Rattle.std.proofs.Common.{◌≡◌, ◌++◌, length, drop}
use Rattle.screen_text.specs.Bytes.{spread}
use Rattle.screen_text.proofs.bytes.spread.Given as goal

-- the line up to here is spread
abbrev pub invariant-loop-byte : goal.invariant-loop-byte
invariant-loop-byte l = l.plain.items ++ spread (length l.plain.items) (drop l.byte-index l.line) ≡ spread 0 l.line
