use Rattle.block_buffers.specs.Entries.{unassigned_slot, entry_at}
use Rattle.block_buffers.proofs.Fronts.{moved_at}
use Rattle.block_buffers.proofs.Blocks.{moved_permutes}
use Rattle.block_buffers.proofs.Slots.{slot_in_front}
use Rattle.block_buffers.proofs.laws.moved_front_law.Goals as goal

pub returns-clause-order : goal.returns-clause-order
unfolding entry_at
returns-clause-order c = λ b place h l. moved_at place b (unassigned_slot 0) l h.once

pub returns-clause-same : goal.returns-clause-same
returns-clause-same c = λ b slot. moved_permutes slot b

pub returns-clause-front : goal.returns-clause-front
returns-clause-front c = slot_in_front
