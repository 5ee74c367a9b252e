use Rattle.command_words.proofs.Adding.{about, grown, if_ok_then, passed}
use Rattle.command_words.specs.CommandLine as line
use Rattle.command_words.proofs.subcommands.survey_command.Goals as goal

pub returns : goal.returns
unfolding line.survey
returns c =
    let s0 = about _ _ c.new.result c.about.result _ c.new.ensures.app c.new.ensures.local c.about.ensures in
    let s1 = grown _ _ c.about.result c.word.result _ _ s0 c.word.ensures.rule c.word.ensures.local c.in_ok-command.ensures in
    let s2 = passed _ _ line.screens_rules _ _ s1 c.in_ok-with_screens.ensures in
    if_ok_then c.arg-2.result _ _ (λ d h. grown _ _ _ c.all_places.result _ d s2 c.all_places.ensures.rule c.all_places.ensures.local h) c.arg-2.ensures
