use Rattle.dictionary.proofs.Firsts.{search_newest, search_forth}
use Rattle.dictionary.proofs.laws.search_law.Goals as goal

pub returns-clause-newest : goal.returns-clause-newest
returns-clause-newest c = search_newest

pub returns-clause-forth : goal.returns-clause-forth
returns-clause-forth c = search_forth
