use Rattle.image_builder.proofs.Headers.{length_is, pointer_is}
use Rattle.image_builder.proofs.laws.size_law.Goals as goal

pub returns-clause-length : goal.returns-clause-length
returns-clause-length c = length_is

pub returns-clause-end : goal.returns-clause-end
returns-clause-end c = pointer_is
