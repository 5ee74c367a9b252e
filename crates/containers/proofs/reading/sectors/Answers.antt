use Rattle.std.proofs.Common.{◌≡◌, ◌-◌, length, arith}
use Rattle.containers.proofs.Places.{sectors_count}
use Rattle.containers.proofs.reading.sectors.Goals as goal

pub overflow_mul-result : goal.overflow_mul-result
overflow_mul-result c =
    let e : c.saturating_sub.result ≡ length c.args.container.now - c.args.layout.now.offset = omega (arith, c.offset.ensures.value) in
    omega (arith, sectors_count c.args.layout.now c.args.container.now _ _ _ c.offset.ensures.sound e c.track.ensures.value c.count.ensures.value)
