use Rattle.std.proofs.Common.{refl}
use Rattle.clap.specs.Simple.{app_of}
use Rattle.clap.specs.declared.builder.command.Command.TheViews.{out-Command as fields_of}
use Rattle.command_words.proofs.Adding.{grown, if_ok_then}
use Rattle.command_words.specs.CommandLine as line
use Rattle.command_words.proofs.subcommands.with_records.Goals as goal

pub returns : goal.returns
returns c =
    let s0 : line.IsRead (app_of c.args.command) (fields_of c.args.command).has_globals c.args.command = record { app = refl; local = refl } in
    let s1 = grown _ _ c.args.command c.number.result _ _ s0 c.number.ensures.rule c.number.ensures.local c.in_ok-arg.ensures in
    let s2 = grown _ _ _ c.number-2.result _ _ s1 c.number-2.ensures.rule c.number-2.ensures.local c.in_ok-arg-2.ensures in
    if_ok_then c.arg-3.result _ _ (λ d h. grown _ _ _ c.number-3.result _ d s2 c.number-3.ensures.rule c.number-3.ensures.local h) c.arg-3.ensures
