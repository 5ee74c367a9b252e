use Rattle.forth83_c.proofs.Joined.{joined}
use Rattle.forth83_c.proofs.laws.pieces_law.Goals as goal

pub returns : goal.returns
returns c = joined
