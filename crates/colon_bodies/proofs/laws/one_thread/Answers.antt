use Rattle.colon_bodies.proofs.Bytes.{one_thread}
use Rattle.colon_bodies.proofs.laws.one_thread.Goals as goal

pub returns : goal.returns
returns c = λ rt t u at d. one_thread rt d t u at
