use Rattle.block_buffers.proofs.Updated.{first_is_lowest}
use Rattle.block_buffers.proofs.laws.first_updated_law.Goals as goal

pub returns : goal.returns
returns c = first_is_lowest
