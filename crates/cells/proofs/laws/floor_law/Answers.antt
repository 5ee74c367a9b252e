use Rattle.cells.proofs.Floor as law
use Rattle.cells.proofs.laws.floor_law.Goals as goal

pub returns : goal.returns
returns c = law.floor_law
