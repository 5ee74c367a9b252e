use Rattle.std.proofs.Common.{rules}
use Rattle.name_index.proofs.Holding.{holds_beside}
use Rattle.name_index.proofs.index.NameIndex.note.Goals as goal

pub returns-else-is_touched-clause-holds : goal.returns-else-is_touched-clause-holds
returns-else-is_touched-clause-holds c limit m other s =
    holds_beside limit c.args.at c.args.n c.args.self.now m other (search rules) s
