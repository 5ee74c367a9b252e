use Rattle.block_buffers.proofs.Blocks.{blocks_started, blocks_assigned, blocks_marked, blocks_cleaned, blocks_unmarked, blocks_unassigned}
use Rattle.block_buffers.proofs.Kept.{blocks_moved}
use Rattle.block_buffers.proofs.laws.no_block_twice_law.Goals as goal

pub returns-clause-started : goal.returns-clause-started
returns-clause-started c = blocks_started

pub returns-clause-moved : goal.returns-clause-moved
returns-clause-moved c = λ b slot. blocks_moved slot b

pub returns-clause-assigned : goal.returns-clause-assigned
returns-clause-assigned c = λ b u. blocks_assigned u b

pub returns-clause-marked : goal.returns-clause-marked
returns-clause-marked c = blocks_marked

pub returns-clause-cleaned : goal.returns-clause-cleaned
returns-clause-cleaned c = λ b slot. blocks_cleaned slot b

pub returns-clause-unmarked : goal.returns-clause-unmarked
returns-clause-unmarked c = λ b u. blocks_unmarked u b

pub returns-clause-unassigned : goal.returns-clause-unassigned
returns-clause-unassigned c = blocks_unassigned
