use Rattle.resident_bodies.proofs.Ending.{definition_is}
use Rattle.resident_bodies.proofs.Items.{image_opens}
use Rattle.resident_bodies.proofs.laws.definition_law.Goals as goal

pub returns-clause-opens : goal.returns-clause-opens
returns-clause-opens c = λ limit few t h name behind l r. image_opens limit few t name behind h l r

pub returns-clause-whole : goal.returns-clause-whole
returns-clause-whole c = definition_is
