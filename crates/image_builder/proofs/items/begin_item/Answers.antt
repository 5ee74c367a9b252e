use Rattle.std.proofs.Common.{◌++◌, ◌∷◌, [], refl, arith}
use Rattle.image_builder.specs.Places.{place}
use Rattle.image_builder.specs.declared.entry.Kind.TheVariants as k
use Rattle.image_builder.specs.declared.entry.Lead.TheVariants.{Makes, Defines}
use Rattle.image_builder.proofs.Taking.{item_due, item_counted, item_immediate}
use Rattle.image_builder.proofs.items.begin_item.Goals as goal

pub returns-in-Number : goal.returns-in-Number
returns-in-Number c = λ t ws after h. item_counted c.args.b.now t ws c.in-Number.n c.site_of.result (place c.args.w) h c.in-Number.is c.site_of.ensures.0 c.site_of.ensures.1

pub returns-in-Variable : goal.returns-in-Variable
returns-in-Variable c = λ t ws after h. item_due c.args.b.now t ws (place c.args.w) (Makes k.Variable) h (place c.args.w, refl, c.in-Variable.is) tt

pub returns-in-Create : goal.returns-in-Create
returns-in-Create c = λ t ws after h. item_due c.args.b.now t ws (place c.args.w) (Makes k.Create) h (place c.args.w, refl, c.in-Create.is) tt

pub returns-in-Vocabulary : goal.returns-in-Vocabulary
returns-in-Vocabulary c = λ t ws after h. item_due c.args.b.now t ws (place c.args.w) (Makes k.Vocabulary) h (place c.args.w, refl, c.in-Vocabulary.is) tt

pub returns-in-Colon : goal.returns-in-Colon
returns-in-Colon c = λ t ws after h. item_due c.args.b.now t ws (place c.args.w) Defines h (place c.args.w, refl, c.in-Colon.is) tt

pub returns-else-not-has_names : goal.returns-else-not-has_names
returns-else-not-has_names c = λ t ws after h.
    item_immediate c.args.b.now c.set_immediate.new.b t ws (place c.args.w) h c.in-Immediate.is (c.has_names.ensures.0 c.if-not-has_names.false) (c.set_immediate.ensures.built c.args.b.now.limit t (ws ++ place c.args.w ∷ []) h.built) c.set_immediate.ensures.kept

pub returns-in-None : goal.returns-in-None
returns-in-None c = grind (arith, item_due)
