use Rattle.std.proofs.Common.{◌∙◌, sym}
use Rattle.forth83_c.proofs.Codes.{code_zero}
use Rattle.forth83_c.proofs.forth83_pop.Goals as goal

pub returns-clause-popped : goal.returns-clause-popped
returns-clause-popped c = λ zero. c.pop.ensures.popped (code_zero c.pop.result (sym c.code.ensures ∙ zero))
