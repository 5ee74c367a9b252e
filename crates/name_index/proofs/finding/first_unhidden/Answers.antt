use Rattle.memory.specs.Mirrored.{stored}
use Rattle.std.proofs.Common.{rules}
use Rattle.name_index.proofs.Passed.{passes_none}
use Rattle.name_index.proofs.finding.first_unhidden.Goals as goal

pub returns-else-next-start : goal.returns-else-next-start
returns-else-next-start c name = passes_none (stored c.args.memory.now) name c.args.start (search rules)
