use Rattle.std.proofs.Common.{refl}
use Rattle.name_index.proofs.Holding.{holds_same}
use Rattle.name_index.proofs.index.NameIndex.waits.Goals as goal

pub returns : goal.returns
returns c = record { holds = λ limit m. holds_same limit c.args.self.now _ m refl refl refl }
