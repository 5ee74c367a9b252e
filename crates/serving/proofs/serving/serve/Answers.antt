use Rattle.std.proofs.Common.{inr, refl, ◌∙◌}
use Rattle.serving.proofs.Framing.{none_served, next_served, last_served, passed_both, writer_both}
use Rattle.serving.proofs.serving.serve.Goals as goal

pub loop-init : goal.loop-init
loop-init g c = record { served = none_served _ _ _ _ _; failed = refl; passed = inr (refl, refl); reader = refl; room = c.requires }

pub returns-in-Some-clause-served : goal.returns-in-Some-clause-served
returns-in-Some-clause-served g c =
    rw (← c.count-count.ensures.value) (last_served _ _ _ _ _ _ _ _ _ _ _ _ _ _ _ c.loop.invariant.served c.in-Some.ensures.served)

pub loop-preserved : goal.loop-preserved
loop-preserved g c = record {
  served = next_served _ _ _ _ _ _ _ _ _ _ _ _ _ _ c.loop.invariant.served c.in-None.ensures.served;
  failed = c.in-None.ensures.writer.0 ∙ c.loop.invariant.failed;
  passed = passed_both _ _ _ _ _ _ c.loop.invariant.passed c.in-None.ensures.writer.1;
  reader = c.in-None.ensures.reader ∙ c.loop.invariant.reader;
  room = c.in-None.ensures.room;
}

pub returns-in-Some-clause-writer : goal.returns-in-Some-clause-writer
returns-in-Some-clause-writer g c = writer_both c.in-Some.ending _ _ _ _ _ _ _ _ _ c.loop.invariant.failed c.loop.invariant.passed c.in-Some.ensures.writer
