use Rattle.std.proofs.Common.{refl}
use Rattle.image_builder.proofs.Looping.{nothing_built}
use Rattle.image_builder.proofs.image.start.Goals as goal

pub returns-clause-built : goal.returns-clause-built
returns-clause-built c =
    (nothing_built _ c.new.ensures.items c.new-2.ensures.items c.in_ok-runtime.ensures.zero refl refl refl refl c.requires, c.new-3.ensures)
