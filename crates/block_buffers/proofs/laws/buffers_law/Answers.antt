use Rattle.block_buffers.proofs.Kept.{are_started, length-start, are_moved, are_assigned, are_marked, are_cleaned, are_unmarked, are_unassigned}
use Rattle.block_buffers.proofs.Slots.{slot_once}
use Rattle.block_buffers.proofs.laws.buffers_law.Goals as goal

pub returns-clause-slots : goal.returns-clause-slots
returns-clause-slots c = slot_once

pub returns-clause-started : goal.returns-clause-started
returns-clause-started c = are_started

pub returns-clause-count : goal.returns-clause-count
returns-clause-count c = length-start

pub returns-clause-moved : goal.returns-clause-moved
returns-clause-moved c = λ b slot. are_moved slot b

pub returns-clause-assigned : goal.returns-clause-assigned
returns-clause-assigned c = λ b u. are_assigned u b

pub returns-clause-marked : goal.returns-clause-marked
returns-clause-marked c = are_marked

pub returns-clause-cleaned : goal.returns-clause-cleaned
returns-clause-cleaned c = λ b slot. are_cleaned slot b

pub returns-clause-unmarked : goal.returns-clause-unmarked
returns-clause-unmarked c = λ b u. are_unmarked u b

pub returns-clause-unassigned : goal.returns-clause-unassigned
returns-clause-unassigned c = are_unassigned
