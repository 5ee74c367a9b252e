use Rattle.inner_interpreter.proofs.Slicing as law
use Rattle.inner_interpreter.proofs.laws.slices_law.Goals as goal

pub returns : goal.returns
returns c = law.slices_law
