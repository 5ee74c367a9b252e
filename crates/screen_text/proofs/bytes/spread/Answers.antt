use Rattle.std.proofs.Common.{arith}
use Rattle.screen_text.proofs.Blanks.{spread_all}
use Rattle.screen_text.proofs.bytes.spread.Goals as goal

pub returns : goal.returns
returns c = spread_all _ _ _ c.loop-byte.byte-index (omega arith) c.loop-byte.invariant
