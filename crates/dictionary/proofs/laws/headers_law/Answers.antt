use Rattle.dictionary.proofs.Ascending.{headers_increase, headers_members}
use Rattle.dictionary.proofs.laws.headers_law.Goals as goal

pub returns-clause-ascending : goal.returns-clause-ascending
returns-clause-ascending c = headers_increase

pub returns-clause-members : goal.returns-clause-members
returns-clause-members c = headers_members
