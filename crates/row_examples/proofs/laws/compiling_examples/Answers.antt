use Rattle.row_examples.proofs.laws.compiling_examples.Goals as goal
use Rattle.row_examples.proofs.Computed.{hold_compiling}

pub returns : goal.returns
returns c = hold_compiling
