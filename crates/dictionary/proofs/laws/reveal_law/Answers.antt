use Rattle.dictionary.proofs.NewCounts.{reveal_new}
use Rattle.dictionary.proofs.laws.reveal_law.Goals as goal

pub returns : goal.returns
returns c = reveal_new
