use Rattle.std.proofs.Common.{◌<◌, ℕ, Vec, Ok, length, subst, sym, ◌∙◌, arith}
use Rattle.std.specs.declared.alloc.Global.{Global}
use Rattle.see.specs.Seeing.{IsSeen}
use Rattle.forth83_c.specs.Called.{Tells}
use Rattle.forth83_c.specs.Looked.{WhyNotSeen}
use Rattle.forth83_c.proofs.There.{there, seen_there, refused_there}
use Rattle.forth83_c.proofs.looking.see.Goals as goal

pub returns-then-text-len-clause-why : goal.returns-then-text-len-clause-why
returns-then-text-len-clause-why c =
    there (λ m. (v : Vec ℕ Global) × IsSeen m c.args.name.now (Ok v) × (length c.args.text.now < length v.items)) c.args.kept.now (c.is_record.ensures.0 c.if-not-is_record.false)
    (c.in-Ok.seen, c.in-Ok.ensures.seen, omega (arith, c.if-text-len.true))

pub returns-else-text-len-clause-seen : goal.returns-else-text-len-clause-seen
returns-else-text-len-clause-seen c = λ _.
    seen_there _ _ _ c.in-Ok.seen (c.is_record.ensures.0 c.if-not-is_record.false) c.in-Ok.ensures.seen (c.put.ensures.front ∙ c.as_slice.ensures.value)

pub returns-in-Err-clause-why : goal.returns-in-Err-clause-why
returns-in-Err-clause-why c =
    subst (λ st. Tells (WhyNotSeen c.args.name.now (length c.args.text.now)) c.args.kept.now st) (sym c.by_refusal.ensures)
    (refused_there _ _ _ c.in-Err.refused (c.is_record.ensures.0 c.if-not-is_record.false) c.in-Err.ensures.seen)
