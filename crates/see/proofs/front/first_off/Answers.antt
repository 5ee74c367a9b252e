use Rattle.memory.specs.Controls.{number_of}
use Rattle.see.proofs.Turning.{off_length}
use Rattle.see.proofs.front.first_off.Goals as goal

pub returns-in-Some-clause-lengths : goal.returns-in-Some-clause-lengths
returns-in-Some-clause-lengths c = off_length (number_of c.in-Some.control) c.in_ok-c.rest.now c.control_off.result _ c.control_off.ensures c.in_ok-c.ensures.lengths
