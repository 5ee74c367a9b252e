use Rattle.image_builder.specs.Places.{place}
use Rattle.image_builder.proofs.Taking.{item_chosen}
use Rattle.image_builder.proofs.items.choose_vocabulary.Goals as goal

pub returns-in-Some : goal.returns-in-Some
returns-in-Some c = λ t ws after h. item_chosen c.args.b.now t ws (place c.args.w) c.in-Some.v h c.requires.other (c.in-Some.ensures t h.built)
