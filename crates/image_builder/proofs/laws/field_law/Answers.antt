use Rattle.image_builder.proofs.Chained.{fields_are}
use Rattle.image_builder.proofs.laws.field_law.Goals as goal

pub returns : goal.returns
returns c = fields_are
