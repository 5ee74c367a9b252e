use Rattle.resident_bodies.proofs.Words.{laid_twice}
use Rattle.resident_bodies.proofs.laws.calls_law.Goals as goal

pub returns : goal.returns
returns c = laid_twice
