use Rattle.std.proofs.Common.{◌≡◌, drop, map}
use Rattle.std.specs.Prelude.{slice_index}
use Rattle.memory.specs.Controls.{number_of}
use Rattle.colon_bodies.specs.Found.{pick}
use Rattle.see.proofs.front.control_in.Given as goal

abbrev pub invariant-loop-control : goal.invariant-loop-control
invariant-loop-control l = pick (slice_index l.runtime) l.c (map number_of l.among) ≡ pick (slice_index l.runtime) l.c (map number_of (drop l.control-index l.among))
