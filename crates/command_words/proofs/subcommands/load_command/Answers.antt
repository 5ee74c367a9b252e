use Rattle.command_words.proofs.Adding.{about, grown, if_ok_then, passed}
use Rattle.command_words.specs.CommandLine as line
use Rattle.command_words.proofs.subcommands.load_command.Goals as goal

pub returns : goal.returns
unfolding line.load
returns c =
    let s0 = about _ _ c.new.result c.about.result _ c.new.ensures.app c.new.ensures.local c.about.ensures in
    let s1 = grown _ _ c.about.result c.word.result _ _ s0 c.word.ensures.rule c.word.ensures.local c.in_ok-command.ensures in
    let s2 = passed _ _ line.screens_rules _ _ s1 c.in_ok-with_screens.ensures in
    let s3 = grown _ _ _ c.word-2.result _ _ s2 c.word-2.ensures.rule c.word-2.ensures.local c.in_ok-arg.ensures in
    let s4 = grown _ _ _ c.limit.result _ _ s3 c.limit.ensures.rule c.limit.ensures.local c.in_ok-arg-2.ensures in
    if_ok_then c.arg-4.result _ _ (λ d h. grown _ _ _ c.show_place.result _ d s4 c.show_place.ensures.rule c.show_place.ensures.local h) c.arg-4.ensures
