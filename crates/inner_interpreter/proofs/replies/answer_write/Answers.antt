use Rattle.std.proofs.Common.{refl}
use Rattle.machine.specs.Answer as answering
use Rattle.inner_interpreter.proofs.Faultless.{told_ok}
use Rattle.inner_interpreter.proofs.replies.answer_write.Goals as goal

pub returns-in-Ok-clause-read : goal.returns-in-Ok-clause-read
returns-in-Ok-clause-read g c = told_ok _ _ (answering.WriteOk) _ _ c.requires.goes c.answer.ensures.done c.answer.ensures.not_asked c.unwrap.ensures refl

pub returns-in-Err-clause-read : goal.returns-in-Err-clause-read
returns-in-Err-clause-read g c = told_ok _ _ (answering.WriteFault) _ _ c.requires.goes c.answer-in-Err.ensures.done c.answer-in-Err.ensures.not_asked c.unwrap-in-Err.ensures refl
