use Rattle.std.proofs.Common.{refl}
use Rattle.memory.proofs.Behind.{zeros_are}
use Rattle.memory.proofs.Memory.new.Goals as goal

pub returns-clause-zeros : goal.returns-clause-zeros
returns-clause-zeros c = zeros_are _ refl
