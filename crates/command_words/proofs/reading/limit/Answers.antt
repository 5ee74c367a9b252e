use Rattle.std.proofs.Common.{◌∙◌, ap, Ok, Some, codes, inl, inr}
use Rattle.clap.specs.Matches.{found_of}
use Rattle.command_words.proofs.Rows.{none_lacking, number_lacking, number_read}
use Rattle.command_words.proofs.reading.limit.Goals as goal

pub returns-in-Ok-Some-clause-typed : goal.returns-in-Ok-Some-clause-typed
returns-in-Ok-Some-clause-typed c =
    number_read 64 (found_of c.args.matches.now) (codes "limit") c.try_get_one.result (Some c.in-Ok-Some.limit) (c.in-Ok-Some.is ∙ ap Ok c.in-Ok-Some.field-0-is)
    c.try_get_one.ensures.none c.try_get_one.ensures.value

pub returns-in-Err-clause-lacks : goal.returns-in-Err-clause-lacks
returns-in-Err-clause-lacks c = λ missing.
    inr (number_lacking 64 (found_of c.args.matches.now) (codes "limit") c.try_get_one.result _ c.in-Err.is c.try_get_one.ensures.none c.try_get_one.ensures.value)

pub returns-in-Ok-None-clause-lacks : goal.returns-in-Ok-None-clause-lacks
returns-in-Ok-None-clause-lacks c = λ missing.
    inl (none_lacking 64 (found_of c.args.matches.now) (codes "limit") c.try_get_one.result (c.in-Ok-None.is ∙ ap Ok c.in-Ok-None.field-0-is) c.try_get_one.ensures.value)
