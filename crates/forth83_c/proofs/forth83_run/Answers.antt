use Rattle.std.proofs.Common.{◌∙◌, sym}
use Rattle.forth83_c.proofs.Codes.{code_zero, code_three, run_codes}
use Rattle.forth83_c.proofs.forth83_run.Goals as goal

pub returns-clause-ran : goal.returns-clause-ran
returns-clause-ran c = λ zero. c.run.ensures.ran (code_zero c.run.result (sym c.code.ensures ∙ zero))

pub returns-clause-refused : goal.returns-clause-refused
returns-clause-refused c = run_codes c.run.result c.code.result c.code.ensures c.run.ensures.refused

pub returns-clause-roomy : goal.returns-clause-roomy
returns-clause-roomy c = λ three. c.run.ensures.roomy (code_three c.run.result (sym c.code.ensures ∙ three))
