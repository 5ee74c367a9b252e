use Rattle.command_words.proofs.Adding.{about, grown, if_ok_then}
use Rattle.command_words.specs.CommandLine as line
use Rattle.command_words.proofs.subcommands.run_command.Goals as goal

pub returns : goal.returns
unfolding line.run
returns c =
    let s0 = about _ _ c.new.result c.about.result _ c.new.ensures.app c.new.ensures.local c.about.ensures in
    let s1 = grown _ _ c.about.result c.word.result _ _ s0 c.word.ensures.rule c.word.ensures.local c.in_ok-arg.ensures in
    let s2 = grown _ _ _ c.may_be.result _ _ s1 c.may_be.ensures.rule c.may_be.ensures.local c.in_ok-arg-2.ensures in
    if_ok_then c.arg-3.result _ _ (λ d h. grown _ _ _ c.limit.result _ d s2 c.limit.ensures.rule c.limit.ensures.local h) c.arg-3.ensures
