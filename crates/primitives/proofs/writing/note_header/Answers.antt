use Rattle.std.proofs.Common.{rules}
use Rattle.primitives.proofs.Beside.{header_holds}
use Rattle.primitives.proofs.writing.note_header.Goals as goal

pub returns : goal.returns
returns c = record {
  holds = λ limit m header end link e h.
      header_holds limit _ _ _ m header _ _ _ end link e (search rules) (search rules) c.note.ensures.holds c.note-2.ensures.holds h;
}
