use Rattle.colon_bodies.proofs.Reading.{one_body}
use Rattle.colon_bodies.proofs.laws.one_body.Goals as goal

pub returns : goal.returns
returns c = one_body
