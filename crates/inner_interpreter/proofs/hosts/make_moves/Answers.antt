use Rattle.std.proofs.Common.{arith}
use Rattle.inner_interpreter.proofs.Making.{none_made, next_made, last_made}
use Rattle.inner_interpreter.proofs.hosts.make_moves.Goals as goal

pub loop-step-init : goal.loop-step-init
loop-step-init c = none_made _ _ _ _

pub loop-step-preserved : goal.loop-step-preserved
loop-step-preserved c = next_made _ _ _ _ _ _ _ _ _ _ _ _ _ c.loop-step-test.true c.loop-step.invariant c.host_move.ensures

pub returns : goal.returns
returns c = last_made _ _ _ _ _ _ _ _ (omega (arith, c.loop-step-test.false)) c.loop-step.invariant
