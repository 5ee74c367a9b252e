use Rattle.memory.specs.Mirrored.{stored}
use Rattle.see.proofs.Rooms.{found_short}
use Rattle.see.proofs.seeing.SeeRoom.see_header.Goals as goal

pub see_colon-requires-clause-short : goal.see_colon-requires-clause-short
see_colon-requires-clause-short c = found_short (stored c.args.memory.now) c.args.name.now c.args.l c.len.ensures.bytes c.requires
