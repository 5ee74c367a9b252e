use Rattle.inner_interpreter.proofs.Uniqueness as law
use Rattle.inner_interpreter.proofs.laws.one_end_law.Goals as goal

pub returns : goal.returns
returns c = law.one_end_law
