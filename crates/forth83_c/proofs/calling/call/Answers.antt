use Rattle.std.proofs.Common.{arith}
use Rattle.forth83_c.proofs.Aside.{called_kept}
use Rattle.forth83_c.proofs.calling.call.Goals as goal

pub returns-clause-called : goal.returns-clause-called
returns-clause-called c = λ _.
    called_kept c.args.kept.now c.args.word c.in-Some.line c.behind_line-top.result (c.is_record.ensures.0 c.if-not-is_record.false) (omega arith)
    c.behind_line-top.ensures.off c.in-Some.ensures.line c.behind_line-top.ensures.place
