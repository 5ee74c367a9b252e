use Rattle.containers.proofs.Texts.{cleaned-text, kept-text}
use Rattle.containers.proofs.laws.cleaning_law.Goals as goal

pub returns-clause-text : goal.returns-clause-text
returns-clause-text c = cleaned-text

pub returns-clause-kept : goal.returns-clause-kept
returns-clause-kept c = kept-text
