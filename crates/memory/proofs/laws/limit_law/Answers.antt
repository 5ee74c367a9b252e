use Rattle.memory.proofs.Limits.{of_two, of_four, of_sixteen, limit_is}
use Rattle.memory.proofs.laws.limit_law.Goals as goal

pub returns-clause-two : goal.returns-clause-two
returns-clause-two c = of_two

pub returns-clause-four : goal.returns-clause-four
returns-clause-four c = of_four

pub returns-clause-sixteen : goal.returns-clause-sixteen
returns-clause-sixteen c = of_sixteen

pub returns-clause-whole : goal.returns-clause-whole
returns-clause-whole c = limit_is
