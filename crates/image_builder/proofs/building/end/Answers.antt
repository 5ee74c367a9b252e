use Rattle.std.proofs.Common.{arith}
use Rattle.image_builder.proofs.Looping.{image_size}
use Rattle.image_builder.proofs.building.end.Goals as goal

pub returns-in-Ok-clause-size : goal.returns-in-Ok-clause-size
returns-in-Ok-clause-size c =
    let h = c.requires in
    grind (arith, image_size c.args.b.now.limit h.items h.is.limited.0 h.sound)
