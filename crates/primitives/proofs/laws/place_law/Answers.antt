use Rattle.primitives.proofs.Moved.{row_at}
use Rattle.primitives.proofs.laws.place_law.Goals as goal

pub returns : goal.returns
returns c = row_at
