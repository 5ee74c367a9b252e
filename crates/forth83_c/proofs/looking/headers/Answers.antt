use Rattle.std.proofs.Common.{◌≡◌, ◌<◌, true, false, length, subst, ap, ◌∙◌, arith}
use Rattle.memory.specs.Mirrored.{stored}
use Rattle.dictionary.specs.Order.{AreHeaders, headers, is_beyond_limit}
use Rattle.std.specs.Prelude.{Err}
use Rattle.forth83_c.proofs.There.{there, listed_there}
use Rattle.forth83_c.proofs.looking.headers.Goals as goal

pub returns-in-Err-ChainTooLong-clause-why : goal.returns-in-Err-ChainTooLong-clause-why
returns-in-Err-ChainTooLong-clause-why c =
    there (λ m. is_beyond_limit m ≡ true) c.args.kept.now (c.is_record.ensures.0 c.if-not-is_record.false)
    (subst (λ e. AreHeaders (stored c.args.kept.now.memory) (Err e)) c.in-Err-ChainTooLong.field-0-is c.in-Err-ChainTooLong.ensures)

pub returns-in-Err-OutOfMemory-clause-why : goal.returns-in-Err-OutOfMemory-clause-why
returns-in-Err-OutOfMemory-clause-why c =
    there (λ m. is_beyond_limit m ≡ false) c.args.kept.now (c.is_record.ensures.0 c.if-not-is_record.false)
    (subst (λ e. AreHeaders (stored c.args.kept.now.memory) (Err e)) c.in-Err-OutOfMemory.field-0-is c.in-Err-OutOfMemory.ensures)

pub returns-then-list-len-clause-why : goal.returns-then-list-len-clause-why
returns-then-list-len-clause-why c =
    there (λ m. is_beyond_limit m ≡ false × (length c.args.list.now < length (headers m))) c.args.kept.now (c.is_record.ensures.0 c.if-not-is_record.false)
    (c.in-Ok.ensures.0, omega (arith, c.if-list-len.true, ap (λ ls. length ls) c.in-Ok.ensures.1))

pub returns-clause-listed : goal.returns-clause-listed
returns-clause-listed c = λ _. listed_there _ _ (c.is_record.ensures.0 c.if-not-is_record.false) c.in-Ok.ensures.0 (c.put_cells.ensures.front ∙ c.as_slice.ensures.value ∙ c.in-Ok.ensures.1)
