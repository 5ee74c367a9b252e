use Rattle.row_examples.proofs.laws.stack_examples.Goals as goal
use Rattle.row_examples.proofs.Computed.{hold_stack}

pub returns : goal.returns
returns c = hold_stack
