use Rattle.block_buffers.proofs.ScreenLines.{insert_before, insert_behind, insert_line, size_inserted}
use Rattle.block_buffers.proofs.laws.insert_line_law.Goals as goal

pub returns-clause-size : goal.returns-clause-size
returns-clause-size c = size_inserted

pub returns-clause-above : goal.returns-clause-above
returns-clause-above c = insert_before

pub returns-clause-line : goal.returns-clause-line
returns-clause-line c = insert_line

pub returns-clause-below : goal.returns-clause-below
returns-clause-below c = insert_behind
