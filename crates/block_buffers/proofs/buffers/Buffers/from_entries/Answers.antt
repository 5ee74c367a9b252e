use Rattle.block_buffers.proofs.Taking.{started_small, started_stamped, taken_slots, taken_entries}
use Rattle.block_buffers.proofs.buffers.Buffers.from_entries.Goals as goal

pub take_all-next-requires-clause-slots : goal.take_all-next-requires-clause-slots
take_all-next-requires-clause-slots c =
    started_small c.args.entries.now _ _ (c.are_buffers.ensures.0 c.if-not-are_buffers.false) c.unassigned_slots-slots.ensures c.as_mut_slice.ensures.value

pub take_all-next-requires-clause-stamped : goal.take_all-next-requires-clause-stamped
take_all-next-requires-clause-stamped c =
    started_stamped c.args.entries.now _ _ (c.are_buffers.ensures.0 c.if-not-are_buffers.false) c.unassigned_slots-slots.ensures c.as_mut_slice.ensures.value

pub invariant_of-result : goal.invariant_of-result
invariant_of-result c =
    taken_slots c.args.entries.now _ _ _ _ (c.are_buffers.ensures.0 c.if-not-are_buffers.false) c.unassigned_slots-slots.ensures c.as_mut_slice.ensures.value
    c.take_all-next.ensures.length c.take_all-next.ensures.stamped c.take_all-next.ensures.entries

pub returns-clause-value : goal.returns-clause-value
returns-clause-value c =
    taken_entries c.args.entries.now _ _ _ (c.are_buffers.ensures.0 c.if-not-are_buffers.false) c.unassigned_slots-slots.ensures c.as_mut_slice.ensures.value
    c.take_all-next.ensures.length c.take_all-next.ensures.entries
