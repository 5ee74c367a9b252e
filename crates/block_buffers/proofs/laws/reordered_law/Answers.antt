use Rattle.block_buffers.proofs.Blocks.{references_permute}
use Rattle.block_buffers.proofs.laws.reordered_law.Goals as goal

pub returns : goal.returns
returns c = references_permute
