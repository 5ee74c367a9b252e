use Rattle.std.proofs.Common.{refl}
use Rattle.forth83_c.proofs.Same.{full_stack}
use Rattle.forth83_c.proofs.running.push.Goals as goal

pub returns-in-None-clause-why : goal.returns-in-None-clause-why
returns-in-None-clause-why c = λ _. full_stack _ (c.is_record.ensures.0 c.if-not-is_record.false) (c.in-None.ensures.full refl)
