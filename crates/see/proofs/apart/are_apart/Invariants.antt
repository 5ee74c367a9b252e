use Rattle.std.specs.Prelude.{slice_index}
use Rattle.see.proofs.Loneness.{AreAlone}
use Rattle.see.proofs.apart.are_apart.Given as goal

abbrev pub invariant-loop-i : goal.invariant-loop-i
invariant-loop-i l = AreAlone (slice_index l.runtime) l.i
