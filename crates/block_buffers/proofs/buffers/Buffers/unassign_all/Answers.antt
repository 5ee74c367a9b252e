use Rattle.std.proofs.Common.{◌∙◌, ap, map}
use Rattle.block_buffers.proofs.Written.{unassigned_slots}
use Rattle.block_buffers.proofs.buffers.Buffers.unassign_all.Goals as goal

pub invariant_of-self : goal.invariant_of-self
invariant_of-self c = unassigned_slots _ _ _ (c.unassign_all.ensures ∙ ap (map _) c.as_mut_slice.ensures.value) c.self.invariant
