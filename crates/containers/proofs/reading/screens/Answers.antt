use Rattle.std.proofs.Common.{arith}
use Rattle.containers.proofs.Places.{bytes_count}
use Rattle.containers.proofs.reading.screens.Goals as goal

pub overflow_mul-result : goal.overflow_mul-result
overflow_mul-result c = omega (arith, bytes_count c.args.layout.now c.args.container.now _ _ c.sector.ensures.sound c.sectors.ensures c.sector.ensures.value)
