use Rattle.command_words.proofs.Adding.{about, grown, if_ok_then, passed}
use Rattle.command_words.specs.CommandLine as line
use Rattle.command_words.proofs.subcommands.unpack_command.Goals as goal

pub returns : goal.returns
unfolding line.unpack
returns c =
    let s0 = about _ _ c.new.result c.about.result _ c.new.ensures.app c.new.ensures.local c.about.ensures in
    let s1 = grown _ _ c.about.result c.word.result _ _ s0 c.word.ensures.rule c.word.ensures.local c.in_ok-arg.ensures in
    let s2 = grown _ _ _ c.word-2.result _ _ s1 c.word-2.ensures.rule c.word-2.ensures.local c.in_ok-arg-2.ensures in
    let s3 = grown _ _ _ c.clean.result _ _ s2 c.clean.ensures.rule c.clean.ensures.local c.in_ok-arg-3.ensures in
    let s4 = grown _ _ _ c.flag.result _ _ s3 c.flag.ensures.rule c.flag.ensures.local c.in_ok-arg-4.ensures in
    let s5 = grown _ _ _ c.option.result _ _ s4 c.option.ensures.rule c.option.ensures.local c.in_ok-command.ensures in
    let s6 = passed _ _ line.disk_rules _ _ s5 c.in_ok-with_disk.ensures in
    if_ok_then c.with_records.result _ _ (λ d h. passed _ _ line.record_rules _ d s6 h) c.with_records.ensures
