use Rattle.std.proofs.Common.{◌∙◌, sym, ap}
use Rattle.forth83_c.specs.Called.{code_of}
use Rattle.forth83_c.proofs.Codes.{code_zero}
use Rattle.forth83_c.proofs.forth83_load_3.Goals as goal

pub returns-clause-loaded : goal.returns-clause-loaded
returns-clause-loaded c = λ contents file zero. c.load.ensures.loaded contents file (code_zero c.load.result (sym c.code.ensures ∙ zero))

pub returns-clause-accepted : goal.returns-clause-accepted
returns-clause-accepted c = λ contents file. c.code.ensures ∙ ap code_of (c.load.ensures.accepted contents file)
