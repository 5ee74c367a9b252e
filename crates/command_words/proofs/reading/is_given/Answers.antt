use Rattle.clap.specs.Matches.{found_of}
use Rattle.command_words.proofs.Rows.{flag_read}
use Rattle.command_words.proofs.reading.is_given.Goals as goal

pub returns : goal.returns
returns c = flag_read (found_of c.args.matches.now) c.args.name.now _ c.get_flag.ensures.none c.get_flag.ensures.value c.get_flag.ensures.other
