use Rattle.row_examples.proofs.laws.memory_examples.Goals as goal
use Rattle.row_examples.proofs.Computed.{hold_memoryrows}

pub returns : goal.returns
returns c = hold_memoryrows
