use Rattle.colon_bodies.proofs.Cells.{patched}
use Rattle.colon_bodies.proofs.image.patch.Goals as goal

pub returns-clause-patched : goal.returns-clause-patched
returns-clause-patched c = λ front back y e n. patched c.args.image.now.items front back c.args.x y c.args.place e n
