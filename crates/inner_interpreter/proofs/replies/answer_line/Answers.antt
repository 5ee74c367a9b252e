use Rattle.std.proofs.Common.{refl}
use Rattle.machine.specs.Answer as answering
use Rattle.inner_interpreter.proofs.Faultless.{told_ok}
use Rattle.inner_interpreter.proofs.replies.answer_line.Goals as goal

pub returns-then-not-returned-clause-read : goal.returns-then-not-returned-clause-read
returns-then-not-returned-clause-read g c = told_ok _ _ answering.InputEnd _ _ c.requires.goes c.answer.ensures.done c.answer.ensures.not_asked c.unwrap.ensures refl

pub returns-else-is_empty-clause-read : goal.returns-else-is_empty-clause-read
returns-else-is_empty-clause-read g c = told_ok _ _ (answering.Line c.as_slice-bytes.result.now c.in-Ok.returned) _ _ c.requires.goes c.answer-in-Ok.ensures.done c.answer-in-Ok.ensures.not_asked c.unwrap-in-Ok.ensures refl
