use Rattle.std.proofs.Common.{arith, ap, length}
use Rattle.serving.proofs.putting.buffers_in.Goals as goal

pub returns-in-Some-clause-count : goal.returns-in-Some-clause-count
returns-in-Some-clause-count c = omega (arith, ap length c.in-Some.ensures.value, ap length c.as_slice.ensures.value, c.add_entries.ensures.count c.args._count c.requires.size, ap length c.new-entries.ensures)
