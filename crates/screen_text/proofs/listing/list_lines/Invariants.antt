use Rattle.std.proofs.Common.{◌≡◌, ◌+◌, ◌++◌, map, drop}
use Rattle.screen_text.specs.Headings.{listed_lines}
use Rattle.screen_text.proofs.listing.list_lines.Given as goal

-- the lines up to here are listed
abbrev pub invariant-loop-index : goal.invariant-loop-index
invariant-loop-index l = l.listing.items ++ listed_lines (l.index + 1) (map (λ x. x.now) (drop l.index l.lines)) ≡ listed_lines 1 (map (λ x. x.now) l.lines)
