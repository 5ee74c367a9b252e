use Rattle.std.proofs.Common.{◌≡◌, ◌++◌, flat_map, drop}
use Rattle.screen_text.specs.Escapes.{escaped, escaped_byte}
use Rattle.screen_text.proofs.escapes.push_escaped.Given as goal

abbrev pub invariant-loop-byte : goal.invariant-loop-byte
invariant-loop-byte l = l.text.items ++ flat_map escaped_byte (drop l.byte-index l.line) ≡ l.fn.text.items ++ escaped l.line
