use Rattle.dictionary.proofs.NewCounts.{length_new, hidden_new, plain_new}
use Rattle.dictionary.proofs.laws.count_byte_law.Goals as goal

pub returns-clause-length : goal.returns-clause-length
returns-clause-length c = length_new

pub returns-clause-hidden : goal.returns-clause-hidden
returns-clause-hidden c = hidden_new

pub returns-clause-immediate : goal.returns-clause-immediate
returns-clause-immediate c = plain_new
