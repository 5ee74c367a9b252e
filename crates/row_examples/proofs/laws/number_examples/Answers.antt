use Rattle.row_examples.proofs.laws.number_examples.Goals as goal
use Rattle.row_examples.proofs.Computed.{hold_numbers}

pub returns : goal.returns
returns c = hold_numbers
