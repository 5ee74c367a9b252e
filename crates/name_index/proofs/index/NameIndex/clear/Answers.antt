use Rattle.std.proofs.Common.{refl}
use Rattle.name_index.proofs.Holding.{holds_none}
use Rattle.name_index.proofs.index.NameIndex.clear.Goals as goal

pub returns-clause-holds : goal.returns-clause-holds
returns-clause-holds c limit m = holds_none _ limit m refl refl refl
