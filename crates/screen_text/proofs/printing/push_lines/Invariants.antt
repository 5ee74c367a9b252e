use Rattle.std.proofs.Common.{◌≡◌, ◌++◌, ◌*◌, ◌-◌, flat_map, drop}
use Rattle.screen_text.specs.Screens.{line_text, screen_lines}
use Rattle.screen_text.proofs.printing.push_lines.Given as goal

-- the lines up to here are added
abbrev pub invariant-loop-row : goal.invariant-loop-row
invariant-loop-row l = l.text.items ++ flat_map line_text (screen_lines (16 - l.row) (drop (64 * l.row) l.bytes)) ≡ l.fn.text.items ++ flat_map line_text (screen_lines 16 l.bytes)
