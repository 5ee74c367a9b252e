use Rattle.containers.proofs.Returning.{read_again}
use Rattle.containers.proofs.laws.rereading_law.Goals as goal

pub returns : goal.returns
returns c = read_again
