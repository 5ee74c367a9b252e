use Rattle.metacompiler.proofs.Answering.{saved_stays}
use Rattle.metacompiler.proofs.load.load_on.Goals as goal

pub returns-clause-stopped : goal.returns-clause-stopped
returns-clause-stopped g c = λ runs. saved_stays _ c.args.from c.args.to c.args.entry _ _ _ _ c.save.result c.save.ensures
