use Rattle.std.proofs.Common.{refl}
use Rattle.clap.specs.Simple.{app_of}
use Rattle.clap.specs.declared.builder.command.Command.TheViews.{out-Command as fields_of}
use Rattle.command_words.proofs.Adding.{grown, if_ok_then}
use Rattle.command_words.specs.CommandLine as line
use Rattle.command_words.proofs.subcommands.with_layout.Goals as goal

pub returns : goal.returns
returns c =
    let s0 : line.IsRead (app_of c.args.command) (fields_of c.args.command).has_globals c.args.command = record { app = refl; local = refl } in
    let s1 = grown _ _ c.args.command c.format.result _ _ s0 c.format.ensures.rule c.format.ensures.local c.in_ok-arg.ensures in
    let s2 = grown _ _ _ c.offset.result _ _ s1 c.offset.ensures.rule c.offset.ensures.local c.in_ok-arg-2.ensures in
    let s3 = grown _ _ _ c.sector.result _ _ s2 c.sector.ensures.rule c.sector.ensures.local c.in_ok-arg-3.ensures in
    if_ok_then c.arg-4.result _ _ (λ d h. grown _ _ _ c.option.result _ d s3 c.option.ensures.rule c.option.ensures.local h) c.arg-4.ensures
