use Rattle.std.proofs.Common.{rules, length}
use Rattle.image_loader.proofs.Placing.{written, beyond}
use Rattle.image_loader.proofs.writer.write_into.Goals as goal

pub returns-clause-written : goal.returns-clause-written
returns-clause-written c = written c.args.image.now c.copy_from_slice.new.self c.copy_from_slice-2.new.self _ (length c.bytes-bytes.result.now) c.bytes-bytes.ensures.image (search rules) (search rules) (search rules) (search rules)

pub returns-clause-beyond : goal.returns-clause-beyond
returns-clause-beyond c = rw c.split_at_mut-front.ensures.back (beyond c.copy_from_slice.new.self c.copy_from_slice-2.new.self c.args.room.now (length c.bytes-bytes.result.now) (search rules) (search rules))
