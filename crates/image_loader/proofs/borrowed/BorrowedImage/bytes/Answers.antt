use Rattle.image_loader.proofs.Tails.{most_bytes}
use Rattle.image_loader.proofs.borrowed.BorrowedImage.bytes.Goals as goal

pub returns-clause-most : goal.returns-clause-most
returns-clause-most c = most_bytes _ c.self.invariant
