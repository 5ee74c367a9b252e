use Rattle.std.proofs.Common.{arith}
use Rattle.block_buffers.proofs.Fresh.{are_fresh}
use Rattle.block_buffers.proofs.buffers.Buffers.with_next.Goals as goal

pub invariant_of-result : goal.invariant_of-result
invariant_of-result c =
    are_fresh _ _ _ c.unassigned_slots.ensures
    (omega (arith, c.from.ensures, c.requires.count.0), omega (arith, c.from.ensures, c.requires.count.1)) (omega (arith, c.from.ensures, c.requires.next))
