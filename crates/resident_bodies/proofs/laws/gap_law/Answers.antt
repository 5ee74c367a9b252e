use Rattle.resident_bodies.proofs.Gaps.{gap, past, rows}
use Rattle.resident_bodies.proofs.laws.gap_law.Goals as goal

pub returns-clause-gap : goal.returns-clause-gap
returns-clause-gap c = gap

pub returns-clause-past : goal.returns-clause-past
returns-clause-past c = past

pub returns-clause-rows : goal.returns-clause-rows
returns-clause-rows c = rows
