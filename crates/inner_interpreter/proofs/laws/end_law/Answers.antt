use Rattle.inner_interpreter.proofs.Ending as law
use Rattle.inner_interpreter.proofs.laws.end_law.Goals as goal

pub returns : goal.returns
returns c = law.end_law
