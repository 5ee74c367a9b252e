use Rattle.clap.specs.Matches.{found_of}
use Rattle.command_words.proofs.Rows.{number_lacking, number_read}
use Rattle.command_words.proofs.reading.size_if_given.Goals as goal

pub returns-in-Ok-clause-typed : goal.returns-in-Ok-clause-typed
returns-in-Ok-clause-typed c =
    number_read 32 (found_of c.args.matches.now) c.args.name.now c.try_get_one.result c.in-Ok.size c.in-Ok.is
    c.try_get_one.ensures.none c.try_get_one.ensures.value

pub returns-in-Err-clause-lacks : goal.returns-in-Err-clause-lacks
returns-in-Err-clause-lacks c = λ missing.
    number_lacking 32 (found_of c.args.matches.now) c.args.name.now c.try_get_one.result _ c.in-Err.is c.try_get_one.ensures.none c.try_get_one.ensures.value
