use Rattle.image_builder.proofs.Chained.{title_says}
use Rattle.image_builder.proofs.laws.header_law.Goals as goal

pub returns : goal.returns
returns c = λ t before p i. title_says i.0 i.1 t before p i.2
