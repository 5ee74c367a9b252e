use Rattle.serving.proofs.Roomy.{refused_room}
use Rattle.serving.proofs.obeying.obey_entry.Goals as goal

pub returns-in-Err-clause-room : goal.returns-in-Err-clause-room
returns-in-Err-clause-room g c = refused_room c.refuse_move.result _ _ _ c.refuse_move.ensures.ok
