use Rattle.std.proofs.Common.{refl}
use Rattle.machine.specs.Answer as answering
use Rattle.inner_interpreter.proofs.Faultless.{told_ok}
use Rattle.inner_interpreter.proofs.replies.answer_key.Goals as goal

pub returns-in-Ok-Some-clause-read : goal.returns-in-Ok-Some-clause-read
returns-in-Ok-Some-clause-read g c = told_ok _ _ (answering.Key c.in-Ok-Some.byte) _ _ c.requires.goes c.answer.ensures.done c.answer.ensures.not_asked c.unwrap.ensures refl

pub returns-in-Ok-None-clause-read : goal.returns-in-Ok-None-clause-read
returns-in-Ok-None-clause-read g c = told_ok _ _ (answering.InputEnd) _ _ c.requires.goes c.answer-in-Ok-None.ensures.done c.answer-in-Ok-None.ensures.not_asked c.unwrap-in-Ok-None.ensures refl
