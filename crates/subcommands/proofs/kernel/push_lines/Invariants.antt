use Rattle.std.proofs.Common.{◌≡◌, ◌++◌, map, flat_map, take}
use Rattle.subcommands.specs.Kernel.{line_bytes}
use Rattle.subcommands.proofs.kernel.push_lines.Given as goal

-- the lines up to here are added
abbrev pub invariant-loop-line : goal.invariant-loop-line
invariant-loop-line l = l.file.items ≡ l.fn.file.items ++ flat_map line_bytes (map (λ x. x.now) (take l.line-index l.lines))
