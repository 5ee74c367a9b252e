use Rattle.command_words.proofs.Adding.{about, gathered, helped, if_ok_then, required, versioned}
use Rattle.command_words.specs.CommandLine as line
use Rattle.command_words.proofs.subcommands.command.Goals as goal

pub returns : goal.returns
returns c =
    let a = about _ _ c.new.result c.about.result _ c.new.ensures.app c.new.ensures.local c.about.ensures in
    let v = versioned _ _ _ c.version.result _ a c.version.ensures in
    let r = required _ _ _ c.subcommand_required.result v c.subcommand_required.ensures in
    let s0 = helped _ _ _ c.arg_required_else_help-command.result r c.arg_required_else_help-command.ensures in
    let s1 = gathered _ _ line.of_files _ _ s0 c.in_ok-with_files.ensures in
    let s2 = gathered _ _ line.of_images _ _ s1 c.in_ok-with_images.ensures in
    if_ok_then c.with_sources.result _ _ (λ d h. (gathered _ _ line.of_sources _ d s2 h).app) c.with_sources.ensures
