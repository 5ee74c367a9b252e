use Rattle.std.proofs.Common.{◌≡◌, ◌+◌, drop}
use Rattle.bstr.specs.Text.{line_len}
use Rattle.screen_text.proofs.reading.line_len.Given as goal

abbrev pub invariant-loop-index : goal.invariant-loop-index
invariant-loop-index l = line_len (drop l.index l.text) + l.index ≡ line_len l.text
