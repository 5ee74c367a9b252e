use Rattle.colon_bodies.proofs.Unique.{one_fault}
use Rattle.colon_bodies.proofs.laws.one_fault.Goals as goal

pub returns : goal.returns
returns c = one_fault
