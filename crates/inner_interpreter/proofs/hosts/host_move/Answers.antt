use Rattle.inner_interpreter.proofs.Making.{left_made, taken_made}
use Rattle.inner_interpreter.proofs.hosts.host_move.Goals as goal

pub returns-in_default : goal.returns-in_default
returns-in_default c = λ ts. left_made _ _ _ ts _ _ c.in_default.ensures.left.0 c.in_default.ensures.left.1

pub returns-in-Ok : goal.returns-in-Ok
returns-in-Ok c = λ ts. taken_made _ _ _ _ ts _ _ _ _ c.in-Ok.ensures.taken.0 c.in-Ok.ensures.taken.1 c.note_shown.ensures c.then.ensures
