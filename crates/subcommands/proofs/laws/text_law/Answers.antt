use Rattle.subcommands.proofs.Rewriting.{same_so, written_so}
use Rattle.subcommands.proofs.laws.text_law.Goals as goal

pub returns-clause-written : goal.returns-clause-written
returns-clause-written c d from n text file sized few e = written_so d from n text file sized few e

pub returns-clause-same : goal.returns-clause-same
returns-clause-same c d from n text sized few e = same_so d from n text sized few e
