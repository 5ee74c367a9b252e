use Rattle.std.proofs.Common.{refl}
use Rattle.clap.specs.Simple.{app_of}
use Rattle.clap.specs.declared.builder.command.Command.TheViews.{out-Command as fields_of}
use Rattle.command_words.proofs.Adding.{if_ok_then, joined}
use Rattle.command_words.specs.CommandLine as line
use Rattle.command_words.proofs.subcommands.with_images.Goals as goal

pub returns : goal.returns
returns c =
    let s0 : line.IsRead (app_of c.args.command) (fields_of c.args.command).has_globals c.args.command = record { app = refl; local = refl } in
    let s1 = joined _ _ line.run _ _ _ s0 c.in_ok-run_command.ensures c.in_ok-subcommand.ensures in
    let s2 = joined _ _ line.see _ _ _ s1 c.in_ok-see_command.ensures c.in_ok-subcommand-2.ensures in
    let s3 = joined _ _ line.debug _ _ _ s2 c.in_ok-debug_command.ensures c.in_ok-subcommand-3.ensures in
    let s4 = joined _ _ line.view _ _ _ s3 c.in_ok-view_command.ensures c.in_ok-subcommand-4.ensures in
    if_ok_then c.subcommand-5.result _ _ (λ d h. joined _ _ line.serve _ _ d s4 c.in_ok-serve_command.ensures h) c.subcommand-5.ensures
