use Rattle.std.proofs.Common.{refl}
use Rattle.clap.specs.Simple.{app_of}
use Rattle.clap.specs.declared.builder.command.Command.TheViews.{out-Command as fields_of}
use Rattle.command_words.proofs.Adding.{if_ok_then, joined}
use Rattle.command_words.specs.CommandLine as line
use Rattle.command_words.proofs.subcommands.with_sources.Goals as goal

pub returns : goal.returns
returns c =
    let s0 : line.IsRead (app_of c.args.command) (fields_of c.args.command).has_globals c.args.command = record { app = refl; local = refl } in
    let s1 = joined _ _ line.survey _ _ _ s0 c.in_ok-survey_command.ensures c.in_ok-subcommand.ensures in
    let s2 = joined _ _ line.judge _ _ _ s1 c.in_ok-judge_command.ensures c.in_ok-subcommand-2.ensures in
    let s3 = joined _ _ line.unpack _ _ _ s2 c.in_ok-unpack_command.ensures c.in_ok-subcommand-3.ensures in
    let s4 = joined _ _ line.pack _ _ _ s3 c.in_ok-pack_command.ensures c.in_ok-subcommand-4.ensures in
    let s5 = joined _ _ line.guess _ _ _ s4 c.in_ok-guess_command.ensures c.in_ok-subcommand-5.ensures in
    let s6 = joined _ _ line.advise _ _ _ s5 c.in_ok-advise_command.ensures c.in_ok-subcommand-6.ensures in
    if_ok_then c.subcommand-7.result _ _ (λ d h. joined _ _ line.headings _ _ d s6 c.in_ok-headings_command.ensures h) c.subcommand-7.ensures
