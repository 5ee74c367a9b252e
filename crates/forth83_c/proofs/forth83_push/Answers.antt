use Rattle.std.proofs.Common.{◌∙◌, sym}
use Rattle.forth83_c.proofs.Codes.{code_zero}
use Rattle.forth83_c.proofs.forth83_push.Goals as goal

pub returns-clause-pushed : goal.returns-clause-pushed
returns-clause-pushed c = λ zero. c.push.ensures.pushed (code_zero c.push.result (sym c.code.ensures ∙ zero))
