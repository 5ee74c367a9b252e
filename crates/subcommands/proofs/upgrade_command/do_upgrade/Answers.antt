use Rattle.std.proofs.lemmas.Bool.{false≢true}
use Rattle.subcommands.proofs.upgrade_command.do_upgrade.Goals as goal

-- an image's file is refused for lack of memory alone
pub returns-in-Err-2-clause-too_large : goal.returns-in-Err-2-clause-too_large
returns-in-Err-2-clause-too_large g c = λ fine old f over. absurd (false≢true (c.if-wants_memory.ensures.1 (c.in-Err.ensures.accepted old f)))

pub returns-in-Err-2-clause-wanting : goal.returns-in-Err-2-clause-wanting
returns-in-Err-2-clause-wanting g c = λ fine none old f fits. c.refuse_image.ensures.out_of_memory fine (c.in-Err.ensures.accepted old f)
