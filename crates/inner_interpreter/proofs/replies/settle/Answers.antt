use Rattle.inner_interpreter.proofs.Answering.{serves_with}
use Rattle.inner_interpreter.proofs.replies.settle.Goals as goal

pub returns-in-Read-clause-told : goal.returns-in-Read-clause-told
returns-in-Read-clause-told g c = λ typed e disk d. serves_with _ _ _ _ _ _ _ _ _ _ c.in-Read.is e (c.answer_read.ensures.told disk d typed)

pub returns-in-Key-clause-answered : goal.returns-in-Key-clause-answered
returns-in-Key-clause-answered g c = c.answer_key.ensures.answered (g.D.Device.calls c.args.device.now)

pub returns-in-Line-clause-answered : goal.returns-in-Line-clause-answered
returns-in-Line-clause-answered g c = c.answer_line.ensures.answered (g.D.Device.calls c.args.device.now)
