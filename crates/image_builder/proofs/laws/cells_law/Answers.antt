use Rattle.image_builder.proofs.Headers.{system_cell, control_cell}
use Rattle.image_builder.proofs.laws.cells_law.Goals as goal

pub returns-clause-system : goal.returns-clause-system
returns-clause-system c = system_cell

pub returns-clause-runtime : goal.returns-clause-runtime
returns-clause-runtime c = control_cell
