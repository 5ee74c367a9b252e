use Rattle.cells.proofs.Floor as law
use Rattle.cells.proofs.laws.remainder_law.Goals as goal

pub returns : goal.returns
returns c = law.remainder_law
