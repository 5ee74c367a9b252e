use Rattle.std.proofs.Common.{take, map}
use Rattle.std.specs.Prelude.{slice_index}
use Rattle.colon_bodies.specs.Draft.{Progress, KeepsRoom}
use Rattle.see.specs.Parts.{token_in}
use Rattle.see.proofs.thread.compile.Given as goal

abbrev pub invariant-loop-i : goal.invariant-loop-i
invariant-loop-i l = record {
  read : Progress (slice_index l.runtime) l.at l.limit (map (token_in l.bytes) (take l.i l.words)) l.d;
  kept : KeepsRoom l.fn.d l.d;
}
