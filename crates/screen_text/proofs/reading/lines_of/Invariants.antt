use Rattle.std.proofs.Common.{◌≡◌, ◌++◌, length, map}
use Rattle.screen_text.specs.Reading.{text_lines}
use Rattle.screen_text.proofs.reading.lines_of.Given as goal

-- the lines up to here, and those of the rest
abbrev pub invariant-loop-rest : goal.invariant-loop-rest
invariant-loop-rest l = map (λ x. x.now) l.lines.items ++ text_lines l.rest ≡ text_lines l.text

abbrev pub decreases-loop-rest : goal.decreases-loop-rest
decreases-loop-rest l = length l.rest
