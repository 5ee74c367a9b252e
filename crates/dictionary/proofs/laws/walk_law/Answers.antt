use Rattle.dictionary.proofs.Firsts.{walk_found, walk_same}
use Rattle.dictionary.proofs.laws.walk_law.Goals as goal

pub returns-clause-found : goal.returns-clause-found
returns-clause-found c = walk_found

pub returns-clause-same : goal.returns-clause-same
returns-clause-same c = walk_same
