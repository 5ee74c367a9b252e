use Rattle.std.proofs.Common.{refl, ap, ◌∙◌, ◌++◌, arith}
use Rattle.memory.specs.Bytes.{cell_bytes}
use Rattle.image_builder.specs.Places.{place}
use Rattle.image_builder.specs.Items.{zero_bytes}
use Rattle.image_builder.specs.declared.entry.Kind.TheVariants as k
use Rattle.image_builder.proofs.Making.{field_laid, new_record, built_end}
use Rattle.image_builder.proofs.make.make_vocabulary.Goals as goal

pub returns-clause-built : goal.returns-clause-built
returns-clause-built c = λ limit t ws b s.
    let h = c.in_ok-make_header.ensures.headed limit t (place c.args.p) (refl, refl) b s in
    let p = place c.args.p in
    record {
      limit_is = h.limit_is;
      limited = h.limited;
      laid = field_laid c.make_header.new.b t ws p k.Vocabulary _ _ h c.in_ok-lay_record.ensures.bytes (ap (λ x. zero_bytes 8 ++ cell_bytes x) h.record_is ∙ new_record limit t ws p h.limited.0 s);
      named = h.named;
      runtime = h.runtime;
      all = h.all;
      current_is = h.current_is;
      record_is = omega (arith, c.here-at.ensures.address, built_end c.args.b.now t b);
      boot_is = h.boot_is;
    }
