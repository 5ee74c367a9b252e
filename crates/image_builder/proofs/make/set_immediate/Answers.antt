use Rattle.std.proofs.Common.{◌-◌, ◌∙◌, ap, sym, arith}
use Rattle.std.proofs.Math.ListN.{set}
use Rattle.image_builder.specs.Names.{entry, newest_first}
use Rattle.image_builder.specs.Items.{mark}
use Rattle.image_builder.proofs.Making.{newest_name, newest_facts, immediate_laid}
use Rattle.image_builder.proofs.make.set_immediate.Goals as goal

pub overflow_cast-e : goal.overflow_cast-e
overflow_cast-e c = let f = newest_facts c.args.b.now c.requires.building (entry c.newest-e.result) _ (newest_name c.args.b.now c.requires.building c.as_slice.result.now c.newest-e.result _ c.as_slice.ensures.value c.newest-e.ensures) in omega (arith, f.0)

pub immediate_of_length-requires : goal.immediate_of_length-requires
immediate_of_length-requires c = let f = newest_facts c.args.b.now c.requires.building (entry c.newest-e.result) _ (newest_name c.args.b.now c.requires.building c.as_slice.result.now c.newest-e.result _ c.as_slice.ensures.value c.newest-e.ensures) in omega (arith, f.0)

pub overflow_sub-e : goal.overflow_sub-e
overflow_sub-e c = let f = newest_facts c.args.b.now c.requires.building (entry c.newest-e.result) _ (newest_name c.args.b.now c.requires.building c.as_slice.result.now c.newest-e.result _ c.as_slice.ensures.value c.newest-e.ensures) in omega (arith, f.1)

pub index_mut-requires : goal.index_mut-requires
index_mut-requires c = let f = newest_facts c.args.b.now c.requires.building (entry c.newest-e.result) _ (newest_name c.args.b.now c.requires.building c.as_slice.result.now c.newest-e.result _ c.as_slice.ensures.value c.newest-e.ensures) in omega (arith, f.2, c.args.b.now.image.ok.0)

pub returns-clause-built : goal.returns-clause-built
returns-clause-built c =
    let q = newest_name c.args.b.now c.requires.building c.as_slice.result.now c.newest-e.result _ c.as_slice.ensures.value c.newest-e.ensures in
    let f = newest_facts c.args.b.now c.requires.building (entry c.newest-e.result) _ q in
    λ limit t ws h.
    record {
      limit_is = h.limit_is;
      limited = h.limited;
      laid = ap (λ x. set c.args.b.now.image.items (c.newest-e.result.link - 254) x) c.immediate_of_length.ensures.value ∙ immediate_laid c.args.b.now t ws (entry c.newest-e.result) _ (c.newest-e.result.link - 254) h (sym h.named ∙ ap newest_first (sym c.as_slice.ensures.value) ∙ c.newest-e.ensures) (omega (arith, f.1));
      named = c.mark_newest.ensures ∙ ap mark h.named;
      runtime = h.runtime;
      all = h.all;
      current_is = h.current_is;
      record_is = h.record_is;
      boot_is = h.boot_is;
    }
