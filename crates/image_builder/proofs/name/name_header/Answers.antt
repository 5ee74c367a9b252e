use Rattle.std.proofs.Common.{inr, ◌++◌, ◌∷◌, [], ◌+◌, length, arith}
use Rattle.image_builder.specs.Places.{place}
use Rattle.image_builder.specs.declared.entry.Lead.TheVariants.{Makes}
use Rattle.image_builder.proofs.Taking.{name_full, not_long, over, not_over, made_whole}
use Rattle.image_builder.proofs.name.name_header.Goals as goal

pub returns-then-is_over : goal.returns-then-is_over
returns-then-is_over c = λ t ws after h.
    let s = not_long _ _ c.is_long.ensures c.if-is_long.false in
    let x = over c.args.b.now t c.is_over.result (7 + length c.args.w.name.now + c.bytes_of_kind.result) h.built c.is_over.ensures c.if-is_over.true in
    inr (name_full c.args.b.now.limit t (place c.args.w) after (Makes c.args.kind) s (omega (arith, x, c.bytes_of_kind.ensures.is)))

pub returns : goal.returns
returns c = λ t ws after h.
    let s = not_long _ _ c.is_long.ensures c.if-is_long.false in
    let x = not_over c.args.b.now t c.is_over.result (7 + length c.args.w.name.now + c.bytes_of_kind.result) h.built c.is_over.ensures c.if-is_over.false in
    made_whole c.args.b.now c.make.new.b t c.args.kind ws (place c.args.w) h s (omega (arith, x, c.bytes_of_kind.ensures.is)) (c.in_ok-make.ensures.built t (ws ++ place c.args.w ∷ []) h.built h.sound) c.in_ok-make.ensures.kept
