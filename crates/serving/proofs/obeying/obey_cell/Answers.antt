use Rattle.serving.proofs.Roomy.{end_room}
use Rattle.serving.proofs.obeying.obey_cell.Goals as goal

pub returns-clause-room : goal.returns-clause-room
returns-clause-room g c = end_room c.end.result _ _ _ _ c.end.ensures.ok
