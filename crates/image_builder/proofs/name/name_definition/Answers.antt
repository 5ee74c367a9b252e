use Rattle.std.proofs.Common.{inr, refl, sym, ◌+◌, length}
use Rattle.image_builder.specs.Places.{place}
use Rattle.image_builder.specs.declared.entry.Lead.TheVariants.{Defines}
use Rattle.image_builder.proofs.Taking.{name_full, not_long, over, not_over, colon_goes}
use Rattle.image_builder.proofs.name.name_definition.Goals as goal

pub returns-then-is_over : goal.returns-then-is_over
returns-then-is_over c = λ t ws after h.
    let s = not_long _ _ c.is_long.ensures c.if-is_long.false in
    inr (name_full c.args.b.now.limit t (place c.args.w) after Defines s (over c.args.b.now t c.is_over.result (7 + length c.args.w.name.now) h.built c.is_over.ensures c.if-is_over.true))

pub returns : goal.returns
returns c = λ t ws after h.
    let s = not_long _ _ c.is_long.ensures c.if-is_long.false in
    colon_goes c.args.b.now t ws _ (place c.args.w) h s (not_over c.args.b.now t c.is_over.result (7 + length c.args.w.name.now) h.built c.is_over.ensures c.if-is_over.false) (refl, sym c.in_ok-name.ensures.bytes)
