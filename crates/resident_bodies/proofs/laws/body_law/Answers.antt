use Rattle.std.proofs.Common.{arith}
use Rattle.resident_bodies.proofs.Bodies.{body_laid, body_stack}
use Rattle.resident_bodies.proofs.laws.body_law.Goals as goal

pub returns-clause-laid : goal.returns-clause-laid
returns-clause-laid c = λ m d at body l e r. body_laid m d at body l e r.low (omega arith)

pub returns-clause-stack : goal.returns-clause-stack
returns-clause-stack c = λ m d at body l e r. body_stack m d at body l e r.low (omega arith)
