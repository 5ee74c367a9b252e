use Rattle.row_examples.proofs.laws.control_examples.Goals as goal
use Rattle.row_examples.proofs.Computed.{hold_control}

pub returns : goal.returns
returns c = hold_control
