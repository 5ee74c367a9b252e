use Rattle.image_builder.proofs.Chained.{image_chain}
use Rattle.image_builder.proofs.laws.chain_law.Goals as goal

pub returns : goal.returns
returns c = λ t voc class i. image_chain i.0 i.1 t voc class i.2
