use Rattle.std.proofs.Common.{arith}
use Rattle.serving.proofs.Roomy.{act_room}
use Rattle.serving.proofs.obeying.send_act.Goals as goal

pub returns-in-Ok-clause-room : goal.returns-in-Ok-clause-room
returns-in-Ok-clause-room g c =
    let few = c.shown_len-size.ensures.few in
    let len = c.shown_len-size.ensures.len in
    act_room c.end.result _ _ _ _ _ _ (omega (arith, few, len)) c.in-Ok.ensures.ok c.end.ensures.ok
