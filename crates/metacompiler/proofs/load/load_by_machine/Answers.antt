use Rattle.std.proofs.Common.{◌≡◌, ◌∙◌, length, Some, inl, refl, ap, subst}
use Rattle.std.specs.Prelude.{IfOk, IfErr, Err}
use Rattle.std.proofs.lemmas.Result.{IfOk-weaker}
use Rattle.block_buffers.specs.Disks.{Disk}
use Rattle.machine.specs.State.{State, loaded_state}
use Rattle.metacompiler.specs.Loaded.{interpret_in, by_interpret, loaded_by_machine, IsLoaded}
use Rattle.metacompiler.specs.Moved.{stage, word_for, HasRead}
use Rattle.metacompiler.proofs.Residents.{compiles_by}
use Rattle.metacompiler.proofs.Moving.{refused_saved, unloaded, not_read}
use Rattle.metacompiler.proofs.load.load_by_machine.Goals as goal

pub returns : goal.returns
returns g c = record {
  told = told;
  compiled = λ d q. compiles_by c.args.image.now d c.args.from c.args.to c.args.limit c.load_on.result (g.D.Device.disk c.load_on.new.device) (told d q);
  refused = refused_saved _ c.load_on.result (c.load_on.new.device ≡ c.args.device.now) (subst (λ (s : State). IfErr (word_for c.args.from c.args.to (interpret_in s.parts.memory)) (λ e. (c.load_on.result ≡ Err e) × (c.load_on.new.device ≡ c.args.device.now))) started c.load_on.ensures.refused);
  moved = IfOk-weaker _ _ _ (λ word h. inl h)
      (subst (λ (s : State). IfOk (word_for c.args.from c.args.to (interpret_in s.parts.memory)) (λ word. HasRead word c.args.image.now.entry c.args.from c.args.to (stage s (g.D.Device.calls c.args.device.now) c.args.limit) (g.D.Device.calls c.load_on.new.device) c.load_on.result)) started
      (subst (λ e. IfOk (word_for c.args.from c.args.to (interpret_in c.load-machine.result.parts.memory)) (λ word. HasRead word e c.args.from c.args.to (stage c.load-machine.result (g.D.Device.calls c.args.device.now) c.args.limit) (g.D.Device.calls c.load_on.new.device) c.load_on.result)) c.entry.ensures
      (c.load_on.ensures.moved (rw started (refl, refl)))));
}
  where
    started : c.load-machine.result ≡ loaded_state c.args.image.now (g.D.Device.block_count c.args.device.now)
    started = c.load-machine.ensures ∙ ap (λ n. loaded_state c.args.image.now n) c.count-count.ensures.value

    told : (d : Disk) → g.D.Device.disk c.args.device.now ≡ Some d → IsLoaded d (loaded_by_machine c.args.image.now d c.args.from c.args.to c.args.limit) c.load_on.result (g.D.Device.disk c.load_on.new.device)
    told d q =
        let count : c.count-count.result ≡ length d.blocks = rw q at c.count-count.ensures.told in
        let m : c.load-machine.result ≡ loaded_state c.args.image.now (length d.blocks) = c.load-machine.ensures ∙ ap (λ n. loaded_state c.args.image.now n) count in
        subst (λ (s : State). IsLoaded d (by_interpret c.args.image.now.entry s.parts d c.args.from c.args.to c.args.limit (interpret_in s.parts.memory)) c.load_on.result (g.D.Device.disk c.load_on.new.device)) m
        (subst (λ e. IsLoaded d (by_interpret e c.load-machine.result.parts d c.args.from c.args.to c.args.limit (interpret_in c.load-machine.result.parts.memory)) c.load_on.result (g.D.Device.disk c.load_on.new.device)) c.entry.ensures
        (c.load_on.ensures.told d q (rw m (refl, refl))))

pub returns-in_default-clause-refused : goal.returns-in_default-clause-refused
returns-in_default-clause-refused g c = unloaded _ _ refl

pub returns-in_default-clause-moved : goal.returns-in_default-clause-moved
returns-in_default-clause-moved g c = not_read _ _ _ _ _ _ _
