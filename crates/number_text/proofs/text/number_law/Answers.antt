use Rattle.number_text.proofs.Spellings.{spelling, only_spellings}
use Rattle.number_text.proofs.text.number_law.Goals as goal

pub returns-clause-read : goal.returns-clause-read
returns-clause-read c = spelling

pub returns-clause-parts : goal.returns-clause-parts
returns-clause-parts c = only_spellings
