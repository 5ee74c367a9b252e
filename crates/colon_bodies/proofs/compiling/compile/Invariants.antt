use Rattle.std.proofs.Common.{take, map}
use Rattle.std.specs.Prelude.{slice_index}
use Rattle.colon_bodies.specs.Draft.{token, Progress, KeepsRoom}
use Rattle.colon_bodies.proofs.compiling.compile.Given as goal

abbrev pub invariant-loop-i : goal.invariant-loop-i
invariant-loop-i l = record {
  read : Progress (slice_index l.runtime) l.at l.limit (map token (take l.i l.words)) l.d;
  kept : KeepsRoom l.fn.d l.d;
}
