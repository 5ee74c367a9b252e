use Rattle.memory.specs.Mirrored.{stored}
use Rattle.see.proofs.Answered.{none_refused}
use Rattle.see.proofs.seeing.see.Goals as goal

pub returns-clause-complete : goal.returns-clause-complete
returns-clause-complete c = λ l d h f. none_refused (stored c.args.memory.now) c.args.name.now _ c.see_named.ensures l d h f
