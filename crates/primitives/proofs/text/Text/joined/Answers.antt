use Rattle.std.proofs.Common.{arith}
use Rattle.primitives.proofs.Pieces.{first_joined}
use Rattle.primitives.proofs.text.Text.joined.Goals as goal

pub returns : goal.returns
returns c = grind (arith, c.extend.ensures, first_joined 32 c.args.head.now c.args.tail.now)
