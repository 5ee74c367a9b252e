use Rattle.source_words.proofs.Joining.{words_append, words_snoc}
use Rattle.source_words.proofs.laws.joining_law.Goals as goal

pub returns-clause-screens : goal.returns-clause-screens
returns-clause-screens c = words_append

pub returns-clause-last : goal.returns-clause-last
returns-clause-last c = words_snoc
