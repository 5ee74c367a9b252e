use Rattle.colon_bodies.proofs.Spelling.{all_spelled_words}
use Rattle.colon_bodies.proofs.laws.spelled_words.Goals as goal

pub returns : goal.returns
returns c = all_spelled_words
