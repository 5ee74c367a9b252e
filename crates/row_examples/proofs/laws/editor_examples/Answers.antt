use Rattle.row_examples.proofs.laws.editor_examples.Goals as goal
use Rattle.row_examples.proofs.Computed.{hold_editor}

pub returns : goal.returns
returns c = hold_editor
