use Rattle.std.proofs.Common.{◌+◌, ◌*◌, arith}
use Rattle.screen_text.proofs.Placing.{long_enough, put_back}
use Rattle.screen_text.proofs.blocks.put_screen.Goals as goal

pub put_at-requires : goal.put_at-requires
put_at-requires c = grind (arith, long_enough (1024 * c.from-start.result + 1024) c.pad.new.bytes.items c.args.file.now.items c.in_ok-pad.ensures, c.deref_mut.ensures.len)

pub returns : goal.returns
returns c = grind (arith, put_back)
