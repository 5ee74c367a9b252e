use Rattle.memory.specs.Mirrored.{stored}
use Rattle.see.proofs.Answered.{none_refused_in}
use Rattle.see.proofs.seeing.see_in.Goals as goal

pub returns-clause-complete : goal.returns-clause-complete
returns-clause-complete c = λ l d h f. none_refused_in (stored c.args.memory.now) c.args.name.now _ _ c.see_named.ensures.seen l d h f
