use Rattle.std.proofs.Common.{◌≡◌, Err, subst, sym}
use Rattle.memory.specs.Mirrored.{stored}
use Rattle.debug_tracer.specs.Debugged.{debugged}
use Rattle.debug_tracer.specs.declared.fault.DebugFault.TheVariants as df
use Rattle.forth83_c.proofs.There.{there, extent_there}
use Rattle.forth83_c.proofs.looking.extent.Goals as goal

pub returns-in-Err-clause-why : goal.returns-in-Err-clause-why
returns-in-Err-clause-why c = there (λ _. Unit {0}) c.args.kept.now (c.is_record.ensures.0 c.if-not-is_record.false) tt

pub returns-in-Ok-extent_in-clause-extent : goal.returns-in-Ok-extent_in-clause-extent
returns-in-Ok-extent_in-clause-extent c = λ _. extent_there _ _ _ _ (c.is_record.ensures.0 c.if-not-is_record.false) (sym c.in-Ok-extent_in.ensures)

pub returns-in-Err-NotFound-clause-why : goal.returns-in-Err-NotFound-clause-why
returns-in-Err-NotFound-clause-why c =
    there (λ m. debugged m c.args.name.now ≡ Err df.NotFound) c.args.kept.now (c.is_record.ensures.0 c.if-not-is_record.false)
    (subst (λ e. debugged (stored c.args.kept.now.memory) c.args.name.now ≡ Err e) c.in-Err-NotFound.field-0-is (sym c.in-Err-NotFound.ensures))

pub returns-in-Err-ChainTooLong-clause-why : goal.returns-in-Err-ChainTooLong-clause-why
returns-in-Err-ChainTooLong-clause-why c =
    there (λ m. debugged m c.args.name.now ≡ Err df.ChainTooLong) c.args.kept.now (c.is_record.ensures.0 c.if-not-is_record.false)
    (subst (λ e. debugged (stored c.args.kept.now.memory) c.args.name.now ≡ Err e) c.in-Err-ChainTooLong.field-0-is (sym c.in-Err-ChainTooLong.ensures))

pub returns-in-Err-NotColon-clause-why : goal.returns-in-Err-NotColon-clause-why
returns-in-Err-NotColon-clause-why c =
    there (λ m. debugged m c.args.name.now ≡ Err df.NotColon) c.args.kept.now (c.is_record.ensures.0 c.if-not-is_record.false)
    (subst (λ e. debugged (stored c.args.kept.now.memory) c.args.name.now ≡ Err e) c.in-Err-NotColon.field-0-is (sym c.in-Err-NotColon.ensures))

pub returns-clause-why : goal.returns-clause-why
returns-clause-why c = there (λ _. Unit {0}) c.args.kept.now (c.is_record.ensures.0 c.if-not-is_record.false) tt
