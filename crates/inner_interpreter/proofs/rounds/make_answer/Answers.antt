use Rattle.inner_interpreter.proofs.Moving.{moved_acted, moved_acted_part, moved_faulted}
use Rattle.inner_interpreter.proofs.rounds.make_answer.Goals as goal

pub returns-in-Ok-show-clause-moved : goal.returns-in-Ok-show-clause-moved
returns-in-Ok-show-clause-moved g c = moved_acted _ _ _ _ _ _ _ _ _ c.in-Ok.ensures.answered c.in-Ok-show.ensures.ok

pub returns-in-Err-show-clause-moved : goal.returns-in-Err-show-clause-moved
returns-in-Err-show-clause-moved g c = moved_acted_part _ _ _ _ _ _ _ _ _ c.in-Ok.ensures.answered c.in-Err-show.ensures.err

pub returns-in-Err-clause-moved : goal.returns-in-Err-clause-moved
returns-in-Err-clause-moved g c = moved_faulted _ _ _ _ _ _ _ c.in-Err.ensures.answered
