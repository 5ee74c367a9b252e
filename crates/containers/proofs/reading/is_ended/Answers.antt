use Rattle.std.proofs.Common.{ap, refl, length, arith}
use Rattle.containers.proofs.Places.{ended_inside}
use Rattle.containers.proofs.reading.is_ended.Goals as goal

pub overflow_mul-start : goal.overflow_mul-start
overflow_mul-start c = omega (arith, ended_inside c.args.layout.now c.args.container.now c.args.at c.pitch.result c.args.layout.now.sector (length c.args.layout.now.ending) c.offset.ensures.sound c.requires.whole c.requires.inside c.pitch.ensures.value refl refl)

pub overflow_add-start : goal.overflow_add-start
overflow_add-start c = omega (arith, ended_inside c.args.layout.now c.args.container.now c.args.at c.pitch.result c.sector.result (length c.args.layout.now.ending) c.offset.ensures.sound c.requires.whole c.requires.inside c.pitch.ensures.value c.sector.ensures.value refl)

pub overflow_add-start-2 : goal.overflow_add-start-2
overflow_add-start-2 c = omega (arith, c.offset.ensures.value, ended_inside c.args.layout.now c.args.container.now c.args.at c.pitch.result c.sector.result (length c.args.layout.now.ending) c.offset.ensures.sound c.requires.whole c.requires.inside c.pitch.ensures.value c.sector.ensures.value refl)

pub overflow_add-start-3 : goal.overflow_add-start-3
overflow_add-start-3 c = omega (arith, c.offset.ensures.value, ended_inside c.args.layout.now c.args.container.now c.args.at c.pitch.result c.sector.result (length c.ending-ending.result.now) c.offset.ensures.sound c.requires.whole c.requires.inside c.pitch.ensures.value c.sector.ensures.value (ap length c.ending-ending.ensures.value))

pub slice_bounds-eq-end : goal.slice_bounds-eq-end
slice_bounds-eq-end c =
    let e = ended_inside c.args.layout.now c.args.container.now c.args.at c.pitch.result c.sector.result (length c.ending-ending.result.now) c.offset.ensures.sound c.requires.whole c.requires.inside c.pitch.ensures.value c.sector.ensures.value (ap length c.ending-ending.ensures.value) in
    let o = c.offset.ensures.value in
    grind arith
