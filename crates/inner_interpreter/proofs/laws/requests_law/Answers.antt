use Rattle.inner_interpreter.proofs.Requested as law
use Rattle.inner_interpreter.proofs.laws.requests_law.Goals as goal

pub returns : goal.returns
returns c = law.most_asked
