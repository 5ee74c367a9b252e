use Rattle.serving.proofs.Kept.{kept}
use Rattle.serving.proofs.laws.kept_law.Goals as goal

pub returns : goal.returns
returns c = kept
