use Rattle.memory.specs.Mirrored.{stored}
use Rattle.see.proofs.Rooms.{found_short}
use Rattle.see.proofs.seeing.see_header.Goals as goal

pub see_sized-requires-clause-short : goal.see_sized-requires-clause-short
see_sized-requires-clause-short c = found_short (stored c.args.memory.now) c.args.name.now c.args.l c.len.ensures.bytes c.requires
