use Rattle.forth83_c.proofs.There.{there}
use Rattle.forth83_c.proofs.surveying.survey.Goals as goal

pub returns-in_default-clause-why : goal.returns-in_default-clause-why
returns-in_default-clause-why c = there (λ m. Unit {0}) c.args.kept.now (c.is_record.ensures.0 c.if-not-is_record.false) tt

pub returns-then-text-len-clause-why : goal.returns-then-text-len-clause-why
returns-then-text-len-clause-why c = there (λ m. Unit {0}) c.args.kept.now (c.is_record.ensures.0 c.if-not-is_record.false) tt
