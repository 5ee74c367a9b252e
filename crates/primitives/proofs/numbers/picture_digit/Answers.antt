use Rattle.std.proofs.Common.{rules}
use Rattle.primitives.proofs.Beside.{digit_pictured}
use Rattle.primitives.proofs.numbers.picture_digit.Goals as goal

pub invariant_of-parts-2 : goal.invariant_of-parts-2
invariant_of-parts-2 c =
    (c.parts.invariant.0, digit_pictured _ _ _ _ _ _ _ _ _ c.picture_digit.ensures c.in-Ok.is c.next_place-place.ensures (search rules) c.note.ensures.holds c.parts.invariant.1)
