use Rattle.std.proofs.Common.{map}
use Rattle.std.specs.String.{string_bytes}
use Rattle.command_words.proofs.Reporting.{reported}
use Rattle.command_words.proofs.parse.Goals as goal

pub returns-in-Err : goal.returns-in-Err
returns-in-Err g c = reported (map string_bytes c.args.typed.now) c.in-Err.why _ c.in-Err.ensures.refused c.refuse.ensures
