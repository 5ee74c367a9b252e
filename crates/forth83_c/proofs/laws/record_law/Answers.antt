use Rattle.forth83_c.proofs.Same as law
use Rattle.forth83_c.proofs.laws.record_law.Goals as goal

pub returns-clause-one : goal.returns-clause-one
returns-clause-one c = law.same_state

pub returns-clause-some : goal.returns-clause-some
returns-clause-some c = law.some_state
