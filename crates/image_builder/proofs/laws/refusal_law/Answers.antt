use Rattle.image_builder.proofs.Screens.{one_refusal, refused_at, good_refused, fault_of_source}
use Rattle.image_builder.proofs.laws.refusal_law.Goals as goal

pub returns-clause-one : goal.returns-clause-one
returns-clause-one c = λ limit d from to e f. one_refusal limit d from to e.screen e.offset f.screen f.offset e.cause f.cause

pub returns-clause-first : goal.returns-clause-first
returns-clause-first c = λ limit d from to e all. refused_at limit d from to e.screen e.offset e.cause all

pub returns-clause-good : goal.returns-clause-good
returns-clause-good c = λ limit d from to e g all. good_refused limit d from to e.screen e.offset e.cause g.0 g.1 all g.2

pub returns-clause-whole : goal.returns-clause-whole
returns-clause-whole c = λ limit d from to k e. fault_of_source limit d from to k e.screen e.offset e.cause
