use Rattle.std.proofs.Common.{arith}
use Rattle.image_builder.proofs.Making.{built_end}
use Rattle.image_builder.proofs.Looping.{system_cells}
use Rattle.image_builder.proofs.image.lay_system.Goals as goal

pub returns-clause-bytes : goal.returns-clause-bytes
returns-clause-bytes c = grind (arith, system_cells, built_end)
