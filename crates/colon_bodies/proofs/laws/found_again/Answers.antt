use Rattle.colon_bodies.proofs.Bytes.{found_again}
use Rattle.colon_bodies.proofs.laws.found_again.Goals as goal

pub returns : goal.returns
returns c = λ rt d t at h. found_again rt d t at h
