use Rattle.std.proofs.Common.{◌∙◌, sym}
use Rattle.containers.proofs.Places.{readable}
use Rattle.containers.proofs.writing.unwritten.Goals as goal

pub capacity-requires : goal.capacity-requires
capacity-requires c = (readable c.args.layout.now c.args.container.now (sym c.unread.ensures ∙ c.in_default.is)).small
