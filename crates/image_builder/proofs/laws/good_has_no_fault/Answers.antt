use Rattle.image_builder.proofs.Running.{no_fault}
use Rattle.image_builder.proofs.laws.good_has_no_fault.Goals as goal

pub returns : goal.returns
returns c = λ limit source u entry g last screen offset cause. no_fault limit source u entry last screen offset cause g
