use Rattle.std.proofs.Common.{refl, rules}
use Rattle.primitives.proofs.Beside.{placed_holds}
use Rattle.primitives.proofs.writing.place_word.Goals as goal

pub invariant_of-parts : goal.invariant_of-parts
invariant_of-parts c =
    (c.parts.invariant.0, placed_holds _ _ _ _ _ _ _ _ _ _ c.place_word.ensures c.in-Ok.is c.len.ensures.bytes (search rules) refl c.note.ensures.holds c.parts.invariant.1)
