use Rattle.block_buffers.proofs.ScreenLines.{put_line, put_others, size_put}
use Rattle.block_buffers.proofs.laws.put_line_law.Goals as goal

pub returns-clause-size : goal.returns-clause-size
returns-clause-size c = size_put

pub returns-clause-line : goal.returns-clause-line
returns-clause-line c = put_line

pub returns-clause-others : goal.returns-clause-others
returns-clause-others c = put_others
