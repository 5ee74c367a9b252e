use Rattle.primitives.proofs.Rows.{behaves_row}
use Rattle.primitives.proofs.laws.stops_law.Goals as goal

pub returns : goal.returns
returns c = λ n w s. (behaves_row n w s).stops
