use Rattle.std.proofs.Common.{rules}
use Rattle.primitives.proofs.Beside.{definition_holds}
use Rattle.primitives.proofs.writing.end_definition.Goals as goal

pub invariant_of-parts : goal.invariant_of-parts
invariant_of-parts c =
    (c.parts.invariant.0, definition_holds _ _ _ _ _ _ _ _ _ _ _ c.end_definition.ensures c.in-Ok.is c.cell-here.ensures (search rules) c.newest_count-count.ensures (search rules) c.note.ensures.holds c.note-in-Ok.ensures.holds c.parts.invariant.1)
