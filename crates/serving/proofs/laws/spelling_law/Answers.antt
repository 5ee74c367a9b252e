use Rattle.std.proofs.Common.{refl}
use Rattle.serving.specs.Requests.{wished}
use Rattle.serving.proofs.Spelling.{spelled, read_back}
use Rattle.serving.proofs.laws.spelling_law.Goals as goal

pub returns-clause-there : goal.returns-clause-there
returns-clause-there c = spelled

pub returns-clause-back : goal.returns-clause-back
returns-clause-back c = λ kind body h n. read_back kind body (wished kind body) h refl n
