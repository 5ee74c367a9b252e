use Rattle.std.proofs.Common.{arith}
use Rattle.inner_interpreter.proofs.Making.{none_made, many_made, ticks_refused, ticks_done}
use Rattle.inner_interpreter.proofs.hosts.make_ticks.Goals as goal

pub loop-left-init : goal.loop-left-init
loop-left-init c = none_made _ _ _ _

pub loop-left-preserved : goal.loop-left-preserved
loop-left-preserved c = many_made _ _ _ _ _ _ _ _ _ _ _ _ _ c.in-Ok.ensures.went c.in-Ok.ensures.most c.loop-left.invariant c.note_shown.ensures c.then.ensures

pub returns-in_default : goal.returns-in_default
returns-in_default c = ticks_refused _ _ _ _ _ _ _ _ _ _ c.in_default.ensures.refused c.loop-left.invariant

pub returns : goal.returns
returns c = ticks_done _ _ _ _ _ _ _ _ (omega (arith, c.loop-left-test.false)) c.loop-left.invariant
