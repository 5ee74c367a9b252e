use Rattle.std.proofs.Common.{refl}
use Rattle.serving.proofs.Restoring.{sizes_are, too_few}
use Rattle.serving.proofs.putting.registers_in.Goals as goal

pub returns-in_default-clause-none : goal.returns-in_default-clause-none
returns-in_default-clause-none c = λ t m k e. too_few t c.args.cells.now c.in_default.ensures e

pub returns-clause-none : goal.returns-clause-none
returns-clause-none c = λ t m k e. let s = sizes_are c.in-Some.front c.args.cells.now t c.args.count m k c.in-Some.ensures e in c.if-has_sizes.ensures.no refl s.0 s.1 s.2
