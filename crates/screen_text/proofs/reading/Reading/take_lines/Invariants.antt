use Rattle.std.proofs.Common.{◌≡◌, ◌+◌, map, drop}
use Rattle.screen_text.specs.Reading.{with_texts}
use Rattle.screen_text.proofs.reading.Reading.take_lines.Given as goal

-- the lines up to here are taken
abbrev pub invariant-loop-index : goal.invariant-loop-index
invariant-loop-index l = with_texts 1 l.fn.self (map (λ x. x.now) l.lines) ≡ with_texts (l.index + 1) l.self (map (λ x. x.now) (drop l.index l.lines))
