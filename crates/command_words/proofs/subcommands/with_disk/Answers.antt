use Rattle.std.proofs.Common.{refl}
use Rattle.clap.specs.Simple.{app_of}
use Rattle.clap.specs.declared.builder.command.Command.TheViews.{out-Command as fields_of}
use Rattle.command_words.proofs.Adding.{grown, if_ok_then, passed}
use Rattle.command_words.specs.CommandLine as line
use Rattle.command_words.proofs.subcommands.with_disk.Goals as goal

pub returns : goal.returns
returns c =
    let s0 : line.IsRead (app_of c.args.command) (fields_of c.args.command).has_globals c.args.command = record { app = refl; local = refl } in
    let s1 = passed _ _ line.layout_rules _ _ s0 c.in_ok-with_layout.ensures in
    let s2 = grown _ _ _ c.number.result _ _ s1 c.number.ensures.rule c.number.ensures.local c.in_ok-arg.ensures in
    let s3 = grown _ _ _ c.number-2.result _ _ s2 c.number-2.ensures.rule c.number-2.ensures.local c.in_ok-arg-2.ensures in
    let s4 = grown _ _ _ c.flag.result _ _ s3 c.flag.ensures.rule c.flag.ensures.local c.in_ok-arg-3.ensures in
    if_ok_then c.arg-4.result _ _ (λ d h. grown _ _ _ c.flag-2.result _ d s4 c.flag-2.ensures.rule c.flag-2.ensures.local h) c.arg-4.ensures
