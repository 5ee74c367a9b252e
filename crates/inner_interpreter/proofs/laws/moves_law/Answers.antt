use Rattle.inner_interpreter.proofs.Tying as law
use Rattle.inner_interpreter.proofs.laws.moves_law.Goals as goal

pub returns : goal.returns
returns c = law.moves_law
