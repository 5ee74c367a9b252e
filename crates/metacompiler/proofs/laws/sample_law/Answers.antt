use Rattle.metacompiler.proofs.Sampling.{sample}
use Rattle.metacompiler.proofs.laws.sample_law.Goals as goal

pub returns : goal.returns
returns c limit screen m dup times d t room = sample limit screen m dup times d t room
