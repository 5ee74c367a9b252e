use Rattle.image_builder.proofs.Chained.{marks_say}
use Rattle.image_builder.proofs.laws.immediate_law.Goals as goal

pub returns : goal.returns
returns c = λ t i. marks_say i.0 i.1 t i.2
