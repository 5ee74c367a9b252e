use Rattle.colon_bodies.proofs.Spelling.{spelled_thread}
use Rattle.colon_bodies.proofs.laws.spelled_thread.Goals as goal

pub returns : goal.returns
returns c = spelled_thread
