use Rattle.see.proofs.Printed.{two_written}
use Rattle.see.proofs.printing.write_forced.Goals as goal

pub returns-clause-written : goal.returns-clause-written
returns-clause-written c = two_written _ _ _ _ _ _ c.as_slice.ensures c.write_word.ensures.written c.write_word-2.ensures.written
