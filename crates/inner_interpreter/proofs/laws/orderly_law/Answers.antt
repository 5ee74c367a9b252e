use Rattle.inner_interpreter.proofs.Orderly as law
use Rattle.inner_interpreter.proofs.laws.orderly_law.Goals as goal

pub returns-clause-started : goal.returns-clause-started
returns-clause-started c = law.start_orderly

pub returns-clause-moved : goal.returns-clause-moved
returns-clause-moved c = law.moved_orderly
