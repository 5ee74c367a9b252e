use Rattle.image_builder.proofs.Chained.{image_view, image_no_view}
use Rattle.image_builder.proofs.laws.view_law.Goals as goal

pub returns-clause-there : goal.returns-clause-there
returns-clause-there c = λ t name p i. image_view i.0 i.1 t name p i.2

pub returns-clause-nowhere : goal.returns-clause-nowhere
returns-clause-nowhere c = λ t name i. image_no_view i.0 i.1 t name i.2
