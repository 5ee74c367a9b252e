use Rattle.std.proofs.Common.{◌∙◌, ap, map}
use Rattle.block_buffers.proofs.Written.{unmarked_slots}
use Rattle.block_buffers.proofs.buffers.Buffers.unmark.Goals as goal

pub invariant_of-self : goal.invariant_of-self
invariant_of-self c = unmarked_slots _ _ _ _ (c.unmark.ensures ∙ ap (map _) c.as_mut_slice.ensures.value) c.self.invariant
