use Rattle.std.proofs.Common.{arith, ap, length}
use Rattle.serving.proofs.Storing.{none_saved, next_saved, all_saved}
use Rattle.serving.proofs.saving.save.Goals as goal

pub loop-place-init : goal.loop-place-init
loop-place-init g c = record { saved = none_saved _ _ _; few = omega arith }

pub loop-place-preserved : goal.loop-place-preserved
loop-place-preserved g c = record {
  saved = next_saved _ c.args.machine.now.parts c.loop-place.place _ _ _ _ _ _ _ (omega (arith, c.loop-place-test.true, c.from-place-end.ensures, c.count.ensures.value, ap length c.buffers-buffers.ensures)) c.buffers-buffers.ensures c.entry.ensures.value c.loop-place.invariant.saved c.save_entry-lost.ensures.saved;
  few = omega (arith, c.loop-place.invariant.few, c.save_entry-lost.ensures.few);
}

pub returns : goal.returns
returns g c = record { saved = all_saved _ c.args.machine.now.parts _ _ _ _ (omega (arith, c.loop-place-test.false, c.from-place-end.ensures, c.count.ensures.value, ap length c.buffers-buffers.ensures)) c.loop-place.invariant.saved }
