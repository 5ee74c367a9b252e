use Rattle.block_buffers.proofs.ScreenLines.{wiped_line}
use Rattle.block_buffers.proofs.laws.wipe_law.Goals as goal

pub returns : goal.returns
returns c = wiped_line
