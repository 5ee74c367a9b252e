use Rattle.std.proofs.Common.{subst, Ok, refl}
use Rattle.memory.specs.Mirrored.{stored}
use Rattle.dictionary.specs.Search.{IsSought, sought}
use Rattle.forth83_c.proofs.Same.{is_named_found, sought_there}
use Rattle.forth83_c.proofs.finding.find.Goals as goal

pub returns-in-Ok-Some-clause-named : goal.returns-in-Ok-Some-clause-named
returns-in-Ok-Some-clause-named c = λ _.
    is_named_found (stored c.args.kept.now.memory) c.args.name.now _
    (subst (λ o. IsSought (sought (stored c.args.kept.now.memory) c.args.name.now) (Ok o)) c.in-Ok-Some.field-0-is c.in-Ok-Some.ensures)

pub returns-in-Ok-None-clause-why : goal.returns-in-Ok-None-clause-why
returns-in-Ok-None-clause-why c =
    sought_there _ _ _ _ (c.is_record.ensures.0 c.if-not-is_record.false) refl
    (subst (λ o. IsSought (sought (stored c.args.kept.now.memory) c.args.name.now) (Ok o)) c.in-Ok-None.field-0-is c.in-Ok-None.ensures)

pub returns-in-Err-clause-why : goal.returns-in-Err-clause-why
returns-in-Err-clause-why c = sought_there _ _ _ _ (c.is_record.ensures.0 c.if-not-is_record.false) refl c.in-Err.ensures
