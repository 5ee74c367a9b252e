use Rattle.std.proofs.Common.{arith, ◌∙◌}
use Rattle.inner_interpreter.proofs.Sending.{appends_more}
use Rattle.inner_interpreter.proofs.sends.send_all.Goals as goal

pub loop-sent-preserved : goal.loop-sent-preserved
loop-sent-preserved g c = record {
  within = omega (arith, c.in-Ok.ensures.bound);
  told = appends_more _ _ _ c.loop-sent.sent c.in-Ok.count c.args.bytes.now c.loop-sent.invariant.told c.in-Ok.ensures.bytes;
  mark = c.in-Ok.ensures.mark ∙ c.loop-sent.invariant.mark;
}
