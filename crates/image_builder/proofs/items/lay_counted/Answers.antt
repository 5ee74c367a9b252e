use Rattle.std.proofs.Common.{◌++◌, ◌∷◌, [], refl, inl, inr}
use Rattle.image_builder.specs.Places.{place}
use Rattle.image_builder.specs.Items.{Cell, Byte, Allot}
use Rattle.image_builder.specs.declared.spot.Sort.TheVariants as s
use Rattle.image_builder.specs.declared.entry.Kind.TheVariants as k
use Rattle.image_builder.specs.declared.entry.Lead.TheVariants.{Makes}
use Rattle.image_builder.proofs.Taking.{counted_full, counted_due, counted_whole, over, not_over}
use Rattle.image_builder.proofs.items.lay_counted.Goals as goal

pub returns-then-is_over : goal.returns-then-is_over
returns-then-is_over c = λ t ws after h p q. inr (counted_full c.args.b.now.limit t c.args.n (place c.args.w) after s.Comma c.in-Comma.is (inl refl) (over c.args.b.now t c.is_over.result 2 h.built c.is_over.ensures c.if-is_over.true))

pub returns-then-is_over-2 : goal.returns-then-is_over-2
returns-then-is_over-2 c = λ t ws after h p q. inr (counted_full c.args.b.now.limit t c.args.n (place c.args.w) after s.CharComma c.in-CharComma.is (inr (inl refl)) (over c.args.b.now t c.is_over-in-CharComma.result 1 h.built c.is_over-in-CharComma.ensures c.if-is_over-2.true))

pub returns-then-is_over-3 : goal.returns-then-is_over-3
returns-then-is_over-3 c = λ t ws after h p q. inr (counted_full c.args.b.now.limit t c.args.n (place c.args.w) after s.Allot c.in-Allot.is (inr (inr refl)) (q c.in-Allot.is, over c.args.b.now t c.is_over-in-Allot.result c.args.n h.built c.is_over-in-Allot.ensures c.if-is_over-3.true))

pub returns-in-Prim : goal.returns-in-Prim
returns-in-Prim c = λ t ws after h p q. counted_due c.args.b.now t c.args.n ws (place c.args.w) (Makes (k.Primitive c.args.n)) s.Prim h c.in-Prim.is (λ a e. (a, place c.args.w, refl, e, c.in-Prim.is)) (p c.in-Prim.is)

pub returns-in-Constant : goal.returns-in-Constant
returns-in-Constant c = λ t ws after h p q. counted_due c.args.b.now t c.args.n ws (place c.args.w) (Makes (k.Constant c.args.n)) s.Constant h c.in-Constant.is (λ a e. (a, place c.args.w, refl, e, c.in-Constant.is)) tt

pub returns-in_ok-comma-in-Comma : goal.returns-in_ok-comma-in-Comma
returns-in_ok-comma-in-Comma c = λ t ws after h p q. counted_whole c.args.b.now c.comma.new.b t c.args.n ws (place c.args.w) (Cell c.args.n) h (λ a e. (a, place c.args.w, refl, e, c.in-Comma.is)) tt (not_over c.args.b.now t c.is_over.result 2 h.built c.is_over.ensures c.if-is_over.false) (c.in_ok-comma-in-Comma.ensures.built c.args.b.now.limit t (ws ++ place c.args.w ∷ []) h.built) c.in_ok-comma-in-Comma.ensures.kept

pub returns-in_ok-char_comma-in-CharComma : goal.returns-in_ok-char_comma-in-CharComma
returns-in_ok-char_comma-in-CharComma c = λ t ws after h p q. counted_whole c.args.b.now c.char_comma.new.b t c.args.n ws (place c.args.w) (Byte c.args.n) h (λ a e. (a, place c.args.w, refl, e, c.in-CharComma.is)) tt (not_over c.args.b.now t c.is_over-in-CharComma.result 1 h.built c.is_over-in-CharComma.ensures c.if-is_over-2.false) (c.in_ok-char_comma-in-CharComma.ensures.built c.args.b.now.limit t (ws ++ place c.args.w ∷ []) h.built) c.in_ok-char_comma-in-CharComma.ensures.kept

pub returns-in_ok-allot-in-Allot : goal.returns-in_ok-allot-in-Allot
returns-in_ok-allot-in-Allot c = λ t ws after h p q. counted_whole c.args.b.now c.allot.new.b t c.args.n ws (place c.args.w) (Allot c.args.n) h (λ a e. (a, place c.args.w, refl, e, c.in-Allot.is)) (q c.in-Allot.is) (not_over c.args.b.now t c.is_over-in-Allot.result c.args.n h.built c.is_over-in-Allot.ensures c.if-is_over-3.false) (c.in_ok-allot-in-Allot.ensures.built c.args.b.now.limit t (ws ++ place c.args.w ∷ []) h.built) c.in_ok-allot-in-Allot.ensures.kept
