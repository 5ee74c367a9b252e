use Rattle.dictionary.proofs.Unnamed.{name_never, empty_never}
use Rattle.dictionary.proofs.laws.name_law.Goals as goal

pub returns-clause-found : goal.returns-clause-found
returns-clause-found c = name_never

pub returns-clause-empty : goal.returns-clause-empty
returns-clause-empty c = empty_never
