use Rattle.std.proofs.Common.{rules}
use Rattle.primitives.proofs.Beside.{minus_holds}
use Rattle.primitives.proofs.numbers.sign.Goals as goal

pub invariant_of-parts : goal.invariant_of-parts
invariant_of-parts c =
    (c.parts.invariant.0, minus_holds _ _ _ _ _ _ _ c.sign.ensures c.if-n-ge32768.true c.next_place-place.ensures (search rules) c.note.ensures.holds c.parts.invariant.1)
