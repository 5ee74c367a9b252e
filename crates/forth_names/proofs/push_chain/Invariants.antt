use Rattle.std.proofs.Common.{◌≡◌, ◌++◌}
use Rattle.std.specs.List.{flat_map}
use Rattle.memory.specs.Bytes.{cell}
use Rattle.memory.specs.Mirrored.{stored}
use Rattle.dictionary.specs.Chain.{chain}
use Rattle.forth_names.specs.Names.{listed_name}
use Rattle.forth_names.proofs.push_chain.Given as goal

-- the names so far, and those that are left
abbrev pub invariant-loop-left : goal.invariant-loop-left
invariant-loop-left l =
    l.names.items ++ flat_map (listed_name (stored l.memory)) (chain (stored l.memory) l.left l.l)
    ≡ l.fn.names.items ++ flat_map (listed_name (stored l.memory)) (chain (stored l.memory) 32769 (cell (stored l.memory) l.head))

abbrev pub decreases-loop-left : goal.decreases-loop-left
decreases-loop-left l = l.left
