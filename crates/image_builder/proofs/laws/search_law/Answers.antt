use Rattle.image_builder.proofs.Chained.{image_sought_in, image_sought, image_finds}
use Rattle.image_builder.proofs.laws.search_law.Goals as goal

pub returns-clause-alone : goal.returns-clause-alone
returns-clause-alone c = λ t voc name i. image_sought_in i.0 i.1 t voc name i.2

pub returns-clause-machine : goal.returns-clause-machine
returns-clause-machine c = λ t name i. image_sought i.0 i.1 t name i.2

pub returns-clause-each : goal.returns-clause-each
returns-clause-each c = λ t n i l. image_finds i.0 i.1 t l.0 l.1 n i.2 l.2 l.3
