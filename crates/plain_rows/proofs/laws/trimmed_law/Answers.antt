use Rattle.plain_rows.proofs.Trimmed as law
use Rattle.plain_rows.proofs.laws.trimmed_law.Goals as goal

pub returns : goal.returns
returns c = law.is_trimmed
