use Rattle.std.proofs.Common.{◌≡◌, sym, Some}
use Rattle.clap.specs.Matches.{found_of}
use Rattle.clap.specs.Simple.{subcommand_rows_of}
use Rattle.clap.specs.Walk.{rows_of}
use Rattle.command_words.proofs.Rows.{entered}
use Rattle.command_words.proofs.reading.words_in.Goals as goal

pub returns-in-Some-clause-lacks : goal.returns-in-Some-clause-lacks
returns-in-Some-clause-lacks c =
    let is : subcommand_rows_of c.args.matches.now ≡ Some (c.in-Some.name.now, rows_of (found_of c.in-Some.inner.now)) =
    entered _ _ _ _ (sym c.in-Some.ensures.name) (sym c.in-Some.ensures.rows) in
    rw is c.words_of.ensures.lacks
