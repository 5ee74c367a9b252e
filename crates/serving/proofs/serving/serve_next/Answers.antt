use Rattle.serving.proofs.Framing.{ended_here, failed_here}
use Rattle.serving.proofs.serving.serve_next.Goals as goal

pub returns-in-End-clause-served : goal.returns-in-End-clause-served
returns-in-End-clause-served g c = ended_here c.take_frame.new.body.items _ _ _ _ _ _ c.in-End.ensures.taken

pub returns-in-Failed-clause-served : goal.returns-in-Failed-clause-served
returns-in-Failed-clause-served g c = failed_here c.take_frame.new.body.items _ _ _ _ _ _ c.in-Failed.ensures.taken
