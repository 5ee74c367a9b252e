use Rattle.std.proofs.Common.{refl}
use Rattle.memory.proofs.Behind.{zeros_are}
use Rattle.forth83_c.proofs.running.clear.Goals as goal

pub returns : goal.returns
returns c = zeros_are _ refl
