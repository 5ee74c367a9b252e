use Rattle.memory.specs.Mirrored.{stored}
use Rattle.std.proofs.Common.{◌≡◌}
use Rattle.dictionary.specs.Header.{is_named_but}
use Rattle.dictionary.specs.Search.{walked}
use Rattle.dictionary.proofs.lookups.walk.Given as goal

abbrev pub invariant-loop-left : goal.invariant-loop-left
invariant-loop-left l =
    walked (is_named_but (stored l.memory) l.name l.hidden) (stored l.memory) l.left l.l
    ≡ walked (is_named_but (stored l.memory) l.name l.hidden) (stored l.memory) 32768 l.start

abbrev pub decreases-loop-left : goal.decreases-loop-left
decreases-loop-left l = l.left
