use Rattle.screen_text.proofs.Returning.{read_size}
use Rattle.screen_text.proofs.reading.read_text.Goals as goal

pub returns-in-Ok-finish-clause-size : goal.returns-in-Ok-finish-clause-size
returns-in-Ok-finish-clause-size c = read_size c.args.text.now c.in-Ok.reading _ _ c.in-Ok.ensures.taken c.in-Ok-finish.ensures.0 c.in-Ok-finish.ensures.1
