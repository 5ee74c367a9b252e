use Rattle.memory.specs.Mirrored.{stored}
use Rattle.std.proofs.Common.{◌≡◌, ◌≤◌, ◌<◌}
use Rattle.name_index.specs.Index.{slots_of}
use Rattle.name_index.proofs.Rounds.{Rounds}
use Rattle.name_index.proofs.admitting.admit_members.Given as goal

abbrev pub invariant-loop-l : goal.invariant-loop-l
invariant-loop-l l = record {
  rounds : Rounds l.top (stored l.memory) l.class l.known l.first l.l (slots_of l.fn.index.table) (slots_of l.index.table);
  heads : l.index.heads ≡ l.fn.index.heads;
  top : l.index.top ≡ l.fn.index.top;
  more : l.fn.index.top ≤ l.top;
  bound : 256 < l.top → l.top ≤ l.limit;
  most : l.l ≤ l.first;
}

abbrev pub decreases-loop-l : goal.decreases-loop-l
decreases-loop-l l = l.l
