use Rattle.dictionary.proofs.Unnamed.{long_never, long_alone, long_from}
use Rattle.dictionary.proofs.laws.long_name_law.Goals as goal

pub returns-clause-never : goal.returns-clause-never
returns-clause-never c = long_never

pub returns-clause-alone : goal.returns-clause-alone
returns-clause-alone c = long_alone

pub returns-clause-from : goal.returns-clause-from
returns-clause-from c = long_from
