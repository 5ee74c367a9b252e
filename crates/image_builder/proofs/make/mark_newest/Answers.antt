use Rattle.std.proofs.Common.{◌-◌, arith}
use Rattle.image_builder.proofs.Making.{marked_names}
use Rattle.image_builder.proofs.make.mark_newest.Goals as goal

pub returns : goal.returns
returns c = marked_names c.args.names.now.items (c.len-i.result - 1) c.index_mut.result.now (omega (arith, c.args.names.now.ok.0)) c.index_mut.ensures.value
