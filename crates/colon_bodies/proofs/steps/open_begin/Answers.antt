use Rattle.colon_bodies.proofs.Laying.{opened_begin}
use Rattle.colon_bodies.proofs.steps.open_begin.Goals as goal

pub returns-clause-steps : goal.returns-clause-steps
returns-clause-steps c = λ rt o t d.
    opened_begin rt c.args.at o t _ _ _ _ c.here.ensures c.in_ok-push.ensures.items d
