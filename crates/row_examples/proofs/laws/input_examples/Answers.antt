use Rattle.row_examples.proofs.laws.input_examples.Goals as goal
use Rattle.row_examples.proofs.Computed.{hold_input}

pub returns : goal.returns
returns c = hold_input
