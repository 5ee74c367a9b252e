use Rattle.std.proofs.Common.{arith}
use Rattle.image_builder.proofs.Making.{building_end}
use Rattle.image_builder.proofs.header.here.Goals as goal

pub overflow_cast-result : goal.overflow_cast-result
overflow_cast-result c = omega (arith, building_end c.args.b.now c.requires, c.args.b.now.image.ok.0)

pub overflow_add-result : goal.overflow_add-result
overflow_add-result c = omega (arith, building_end c.args.b.now c.requires, c.args.b.now.image.ok.0)

pub returns-clause-below : goal.returns-clause-below
returns-clause-below c = omega (arith, building_end c.args.b.now c.requires, c.args.b.now.image.ok.0)
