use Rattle.screen_text.proofs.Returning.{returned, same_again}
use Rattle.screen_text.proofs.laws.printing_law.Goals as goal

pub returns-clause-writable : goal.returns-clause-writable
returns-clause-writable c = λ text numbers bytes h. (returned text numbers bytes h).writable

pub returns-clause-numbers : goal.returns-clause-numbers
returns-clause-numbers c = λ text numbers bytes h. (returned text numbers bytes h).numbers_same

pub returns-clause-bytes : goal.returns-clause-bytes
returns-clause-bytes c = λ text numbers bytes h. (returned text numbers bytes h).bytes_same

pub returns-clause-same : goal.returns-clause-same
returns-clause-same c = same_again
