use Rattle.std.proofs.Common.{refl}
use Rattle.clap.specs.Simple.{app_of}
use Rattle.clap.specs.declared.builder.command.Command.TheViews.{out-Command as fields_of}
use Rattle.command_words.proofs.Adding.{if_ok_then, joined}
use Rattle.command_words.specs.CommandLine as line
use Rattle.command_words.proofs.subcommands.with_files.Goals as goal

pub returns : goal.returns
returns c =
    let s0 : line.IsRead (app_of c.args.command) (fields_of c.args.command).has_globals c.args.command = record { app = refl; local = refl } in
    let s1 = joined _ _ line.kernel _ _ _ s0 c.in_ok-kernel_command.ensures c.in_ok-subcommand.ensures in
    let s2 = joined _ _ line.build _ _ _ s1 c.in_ok-build_command.ensures c.in_ok-subcommand-2.ensures in
    let s3 = joined _ _ line.load _ _ _ s2 c.in_ok-load_command.ensures c.in_ok-subcommand-3.ensures in
    let s4 = joined _ _ line.upgrade _ _ _ s3 c.in_ok-upgrade_command.ensures c.in_ok-subcommand-4.ensures in
    let s5 = joined _ _ line.text _ _ _ s4 c.in_ok-text_command.ensures c.in_ok-subcommand-5.ensures in
    let s6 = joined _ _ line.screens _ _ _ s5 c.in_ok-screens_command.ensures c.in_ok-subcommand-6.ensures in
    let s7 = joined _ _ line.new _ _ _ s6 c.in_ok-new_command.ensures c.in_ok-subcommand-7.ensures in
    let s8 = joined _ _ line.import _ _ _ s7 c.in_ok-import_command.ensures c.in_ok-subcommand-8.ensures in
    if_ok_then c.subcommand-9.result _ _ (λ d h. joined _ _ line.export _ _ d s8 c.in_ok-export_command.ensures h) c.subcommand-9.ensures
