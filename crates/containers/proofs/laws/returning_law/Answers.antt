use Rattle.containers.proofs.Returning.{returned}
use Rattle.containers.proofs.laws.returning_law.Goals as goal

pub returns : goal.returns
returns c = returned
