use Rattle.image_builder.proofs.Single.{one_list, one_image}
use Rattle.image_builder.proofs.laws.one_image.Goals as goal

pub returns-clause-items : goal.returns-clause-items
returns-clause-items c = one_list

pub returns-clause-image : goal.returns-clause-image
returns-clause-image c = one_image
