use Rattle.row_examples.proofs.laws.cell_examples.Goals as goal
use Rattle.row_examples.proofs.Computed.{hold_cell}

pub returns : goal.returns
returns c = hold_cell
