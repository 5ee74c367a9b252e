use Rattle.std.proofs.Common.{◌≡◌, ◌/◌, arith}
use Rattle.containers.specs.Layouts.{physical}
use Rattle.containers.proofs.Places.{product_fits}
use Rattle.containers.proofs.layout.Layout.place.Goals as goal

pub overflow_mul-result : goal.overflow_mul-result
overflow_mul-result c =
    let e : c.physical-track_place.result ≡ physical c.args.self.now.order (c.args.byte / c.args.self.now.sector) = cc in
    omega (arith, product_fits c.args.self.now c.args.byte _ _ c.sector-sector.ensures.sound c.requires e c.pitch.ensures.value)

pub overflow_add-result : goal.overflow_add-result
overflow_add-result c =
    let e : c.physical-track_place.result ≡ physical c.args.self.now.order (c.args.byte / c.args.self.now.sector) = cc in
    omega (arith, product_fits c.args.self.now c.args.byte _ _ c.sector-sector.ensures.sound c.requires e c.pitch.ensures.value)

pub overflow_add-result-2 : goal.overflow_add-result-2
overflow_add-result-2 c =
    let e : c.physical-track_place.result ≡ physical c.args.self.now.order (c.args.byte / c.args.self.now.sector) = cc in
    omega (arith, product_fits c.args.self.now c.args.byte _ _ c.sector-sector.ensures.sound c.requires e c.pitch.ensures.value)
