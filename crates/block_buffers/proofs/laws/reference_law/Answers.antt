use Rattle.block_buffers.proofs.Blocks.{touched_block}
use Rattle.block_buffers.proofs.laws.reference_law.Goals as goal

pub returns : goal.returns
returns c = λ b u h k. touched_block u b h k
