use Rattle.std.proofs.Common.{◌≡◌, drop}
use Rattle.screen_text.specs.Bytes.{bad_byte}
use Rattle.screen_text.proofs.bytes.bad_byte.Given as goal

abbrev pub invariant-loop-byte : goal.invariant-loop-byte
invariant-loop-byte l = bad_byte l.line ≡ bad_byte (drop l.byte-index l.line)
