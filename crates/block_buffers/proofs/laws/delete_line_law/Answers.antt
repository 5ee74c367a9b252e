use Rattle.block_buffers.proofs.ScreenLines.{delete_before, delete_behind, delete_last, size_deleted}
use Rattle.block_buffers.proofs.laws.delete_line_law.Goals as goal

pub returns-clause-size : goal.returns-clause-size
returns-clause-size c = size_deleted

pub returns-clause-above : goal.returns-clause-above
returns-clause-above c = delete_before

pub returns-clause-below : goal.returns-clause-below
returns-clause-below c = delete_behind

pub returns-clause-last : goal.returns-clause-last
returns-clause-last c = delete_last
