use Rattle.std.proofs.Common.{arith}
use Rattle.screen_text.proofs.Lines.{takes_all, takes_end, takes_more}
use Rattle.screen_text.proofs.reading.Reading.take_lines.Goals as goal

pub returns-in-Err-clause-refused : goal.returns-in-Err-clause-refused
returns-in-Err-clause-refused c = takes_end _ c.loop-index.self c.in-Err.cause c.args.lines.now c.loop-index.index _ (omega arith) c.loop-index.invariant c.in-Err.ensures.refused

pub loop-index-preserved : goal.loop-index-preserved
loop-index-preserved c = takes_more _ c.loop-index.self c.take.new.self c.args.lines.now c.loop-index.index _ (omega arith) c.loop-index.invariant c.in-Ok.ensures.taken

pub returns-clause-taken : goal.returns-clause-taken
returns-clause-taken c = takes_all _ c.loop-index.self c.args.lines.now c.loop-index.index (omega arith) c.loop-index.invariant
