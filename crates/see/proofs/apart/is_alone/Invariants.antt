use Rattle.std.specs.Prelude.{slice_index}
use Rattle.see.specs.PlainWords.{IsAlone}
use Rattle.see.proofs.apart.is_alone.Given as goal

abbrev pub invariant-loop-j : goal.invariant-loop-j
invariant-loop-j l = IsAlone (slice_index l.runtime) l.i l.j
