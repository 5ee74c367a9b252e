use Rattle.std.proofs.Common.{rules, ◌≡◌, ◌+◌, false}
use Rattle.name_index.specs.Ranges.{is_met}
use Rattle.name_index.proofs.Holding.{beside, unmet_first, unmet_second}
use Rattle.name_index.proofs.watch.is_touched.Goals as goal

pub returns-clause-beside : goal.returns-clause-beside
returns-clause-beside c unmet = search (rules, beside)

pub returns-then-is_met-clause-unwatched : goal.returns-then-is_met-clause-unwatched
returns-then-is_met-clause-unwatched c unwatched =
    let unmet : is_met c.args.top c.args.at (c.args.at + c.args.n) ≡ false =
    unmet_first c.args.top c.args.at c.args.n (search rules) (search rules) (search rules) unwatched in
    search (rules, unmet)

pub returns-clause-unwatched : goal.returns-clause-unwatched
returns-clause-unwatched c unwatched = search (rules, unmet_second)
