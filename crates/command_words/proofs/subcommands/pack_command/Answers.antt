use Rattle.command_words.proofs.Adding.{about, grown, if_ok_then, passed}
use Rattle.command_words.specs.CommandLine as line
use Rattle.command_words.proofs.subcommands.pack_command.Goals as goal

pub returns : goal.returns
unfolding line.pack
returns c =
    let s0 = about _ _ c.new.result c.about.result _ c.new.ensures.app c.new.ensures.local c.about.ensures in
    let s1 = grown _ _ c.about.result c.word.result _ _ s0 c.word.ensures.rule c.word.ensures.local c.in_ok-arg.ensures in
    let s2 = grown _ _ _ c.word-2.result _ _ s1 c.word-2.ensures.rule c.word-2.ensures.local c.in_ok-command.ensures in
    if_ok_then c.with_disk.result _ _ (λ d h. passed _ _ line.disk_rules _ d s2 h) c.with_disk.ensures
