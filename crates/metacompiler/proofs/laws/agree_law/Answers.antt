use Rattle.metacompiler.proofs.Residents.{agree, enough}
use Rattle.metacompiler.proofs.laws.agree_law.Goals as goal

pub returns-clause-agree : goal.returns-clause-agree
returns-clause-agree c = agree

pub returns-clause-enough : goal.returns-clause-enough
returns-clause-enough c = enough
