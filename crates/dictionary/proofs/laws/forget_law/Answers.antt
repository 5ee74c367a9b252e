use Rattle.dictionary.proofs.Kept.{newest_below, none_below}
use Rattle.dictionary.proofs.laws.forget_law.Goals as goal

pub returns-clause-newest : goal.returns-clause-newest
returns-clause-newest c = newest_below

pub returns-clause-none : goal.returns-clause-none
returns-clause-none c = none_below
