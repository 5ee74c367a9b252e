use Rattle.command_words.proofs.Adding.{about, grown, if_ok_then}
use Rattle.command_words.specs.CommandLine as line
use Rattle.command_words.proofs.subcommands.judge_command.Goals as goal

pub returns : goal.returns
unfolding line.judge
returns c =
    let s0 = about _ _ c.new.result c.about.result _ c.new.ensures.app c.new.ensures.local c.about.ensures in
    let s1 = grown _ _ c.about.result c.word.result _ _ s0 c.word.ensures.rule c.word.ensures.local c.in_ok-arg.ensures in
    let s2 = grown _ _ _ c.word-2.result _ _ s1 c.word-2.ensures.rule c.word-2.ensures.local c.in_ok-arg-2.ensures in
    let s3 = grown _ _ _ c.word-3.result _ _ s2 c.word-3.ensures.rule c.word-3.ensures.local c.in_ok-arg-3.ensures in
    let s4 = grown _ _ _ c.word-4.result _ _ s3 c.word-4.ensures.rule c.word-4.ensures.local c.in_ok-arg-4.ensures in
    if_ok_then c.arg-5.result _ _ (λ d h. grown _ _ _ c.lesson_limit.result _ d s4 c.lesson_limit.ensures.rule c.lesson_limit.ensures.local h) c.arg-5.ensures
