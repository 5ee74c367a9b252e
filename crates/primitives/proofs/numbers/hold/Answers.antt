use Rattle.std.proofs.Common.{rules}
use Rattle.primitives.proofs.Beside.{held_holds}
use Rattle.primitives.proofs.numbers.hold.Goals as goal

pub invariant_of-parts : goal.invariant_of-parts
invariant_of-parts c =
    (c.parts.invariant.0, held_holds _ _ _ _ _ _ _ c.hold.ensures c.next_place-place.ensures (search rules) c.note.ensures.holds c.parts.invariant.1)
