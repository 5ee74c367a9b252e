use Rattle.inner_interpreter.proofs.Faultless as law
use Rattle.inner_interpreter.proofs.laws.input_fault_law.Goals as goal

pub returns : goal.returns
returns c = law.input_fault_law
