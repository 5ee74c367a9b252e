use Rattle.serving.proofs.Roomy.{end_room, refusal_room}
use Rattle.serving.proofs.obeying.obey_bytes.Goals as goal

pub returns-then-is_empty-clause-room : goal.returns-then-is_empty-clause-room
returns-then-is_empty-clause-room g c = refusal_room c.refuse.result _ _ _ c.refuse.ensures.ok

pub returns-clause-room : goal.returns-clause-room
returns-clause-room g c = end_room c.end.result _ _ _ _ c.end.ensures.ok
