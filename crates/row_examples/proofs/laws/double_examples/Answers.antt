use Rattle.row_examples.proofs.laws.double_examples.Goals as goal
use Rattle.row_examples.proofs.Computed.{hold_double}

pub returns : goal.returns
returns c = hold_double
