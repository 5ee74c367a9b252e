use Rattle.std.proofs.Common.{arith}
use Rattle.name_index.proofs.Holding.{holds_above}
use Rattle.name_index.proofs.index.NameIndex.floor.Goals as goal

pub returns-then-self-gt-DICTIONARY-clause-holds : goal.returns-then-self-gt-DICTIONARY-clause-holds
returns-then-self-gt-DICTIONARY-clause-holds c limit m other s =
    holds_above limit c.args.self.now.top c.args.self.now m other (λ r. omega arith) s

pub returns-else-self-gt-DICTIONARY-clause-holds : goal.returns-else-self-gt-DICTIONARY-clause-holds
returns-else-self-gt-DICTIONARY-clause-holds c limit m other s =
    holds_above limit 16 c.args.self.now m other (λ r. absurd (omega (arith, c.if-self-gt-DICTIONARY.false))) s
