use Rattle.block_buffers.proofs.ScreenLines.{same_lines}
use Rattle.block_buffers.proofs.laws.screen_law.Goals as goal

pub returns : goal.returns
returns c = same_lines
