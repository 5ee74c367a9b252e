use Rattle.std.proofs.Common.{◌++◌, ◌∷◌, []}
use Rattle.image_builder.specs.Places.{place}
use Rattle.image_builder.proofs.Taking.{boot_whole}
use Rattle.image_builder.proofs.name.name_boot.Goals as goal

pub returns-in-Some : goal.returns-in-Some
returns-in-Some c = λ t ws after h.
    let f = c.in-Some.ensures t h.built in
    boot_whole c.args.b.now c.set_boot.new.b t ws (place c.args.w) f.0 _ h f.1 f.2 (c.set_boot.ensures.built c.args.b.now.limit t (ws ++ place c.args.w ∷ []) h.built) c.set_boot.ensures.kept
