use Rattle.std.proofs.Common.{ap, arith, length}
use Rattle.image_loader.proofs.Tails.{most_bytes}
use Rattle.image_loader.proofs.image.Image.bytes.Goals as goal

pub returns-clause-most : goal.returns-clause-most
returns-clause-most c = omega (arith, ap length c.as_slice.ensures.value, most_bytes _ c.self.invariant)
