use Rattle.std.proofs.Common.{refl, rules}
use Rattle.primitives.proofs.Beside.{digits_pictured}
use Rattle.primitives.proofs.numbers.picture_digits.Goals as goal

pub invariant_of-parts-2 : goal.invariant_of-parts-2
invariant_of-parts-2 c =
    (c.parts.invariant.0, digits_pictured _ _ _ _ _ _ _ _ _ _ c.picture_digits.ensures.written c.in-Ok.is (search rules) c.cell-end.ensures (search rules) refl c.note.ensures.holds c.parts.invariant.1)
