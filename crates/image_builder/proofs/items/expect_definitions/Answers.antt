use Rattle.std.proofs.Common.{◌++◌, ◌∷◌, []}
use Rattle.image_builder.specs.Places.{place}
use Rattle.image_builder.proofs.Taking.{chosen_whole}
use Rattle.image_builder.proofs.items.expect_definitions.Goals as goal

pub returns-in-Definitions : goal.returns-in-Definitions
returns-in-Definitions c = λ t ws after h.
    chosen_whole c.args.b.now c.set_definitions.new.b t c.args.v ws (place c.args.w) h c.in-Definitions.is (c.set_definitions.ensures.built c.args.b.now.limit t (ws ++ place c.args.w ∷ []) h.built) c.set_definitions.ensures.kept
