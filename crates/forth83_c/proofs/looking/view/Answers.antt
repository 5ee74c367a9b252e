use Rattle.std.proofs.Common.{◌≡◌, Err, subst, sym}
use Rattle.memory.specs.Mirrored.{stored}
use Rattle.dictionary.specs.Search.{sought}
use Rattle.see.specs.View.{viewed}
use Rattle.see.specs.declared.refusal.ViewRefused.TheVariants as vr
use Rattle.forth83_c.proofs.There.{there, viewed_there}
use Rattle.forth83_c.proofs.looking.view.Goals as goal

pub returns-in-Ok-clause-viewed : goal.returns-in-Ok-clause-viewed
returns-in-Ok-clause-viewed c = λ _. viewed_there _ _ _ (c.is_record.ensures.0 c.if-not-is_record.false) (sym c.in-Ok.ensures)

pub returns-in-Err-NotFound-clause-why : goal.returns-in-Err-NotFound-clause-why
returns-in-Err-NotFound-clause-why c =
    there (λ m. viewed m (sought m c.args.name.now) ≡ Err vr.NotFound) c.args.kept.now (c.is_record.ensures.0 c.if-not-is_record.false)
    (subst (λ e. viewed (stored c.args.kept.now.memory) (sought (stored c.args.kept.now.memory) c.args.name.now) ≡ Err e) c.in-Err-NotFound.field-0-is (sym c.in-Err-NotFound.ensures))

pub returns-in-Err-ChainTooLong-clause-why : goal.returns-in-Err-ChainTooLong-clause-why
returns-in-Err-ChainTooLong-clause-why c =
    there (λ m. viewed m (sought m c.args.name.now) ≡ Err vr.ChainTooLong) c.args.kept.now (c.is_record.ensures.0 c.if-not-is_record.false)
    (subst (λ e. viewed (stored c.args.kept.now.memory) (sought (stored c.args.kept.now.memory) c.args.name.now) ≡ Err e) c.in-Err-ChainTooLong.field-0-is (sym c.in-Err-ChainTooLong.ensures))
