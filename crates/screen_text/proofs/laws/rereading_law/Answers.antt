use Rattle.screen_text.proofs.Kept.{reread}
use Rattle.screen_text.proofs.laws.rereading_law.Goals as goal

pub returns : goal.returns
returns c = reread
