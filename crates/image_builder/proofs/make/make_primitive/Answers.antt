use Rattle.std.proofs.Common.{refl, sym, append-nil, [], arith}
use Rattle.image_builder.specs.Places.{place}
use Rattle.image_builder.specs.declared.entry.Kind.TheVariants as k
use Rattle.image_builder.proofs.Making.{field_laid, runtime_more, built_end}
use Rattle.std.proofs.Math.ListN.{length-set}
use Rattle.image_builder.proofs.make.make_primitive.Goals as goal

pub returns-clause-built : goal.returns-clause-built
returns-clause-built c = λ limit t ws b s.
    let h = c.in_ok-make_header.ensures.headed limit t (place c.args.p) (refl, refl) b s in
    let p = place c.args.p in
    record {
      limit_is = h.limit_is;
      limited = h.limited;
      laid = field_laid c.make_header.new.b t ws p (k.Primitive c.args.n) _ [] h (sym (append-nil _)) refl;
      named = h.named;
      runtime = runtime_more c.make_header.new.b.runtime.items t ws p c.args.n _ h.runtime (omega (arith, h.all, c.requires.number)) (omega (arith, c.here-at.ensures.address, built_end c.args.b.now t b));
      all = simp length-set h.all;
      current_is = h.current_is;
      record_is = h.record_is;
      boot_is = h.boot_is;
    }

pub index_mut-requires : goal.index_mut-requires
index_mut-requires c =
    let x = c.requires.building in
    let h = c.in_ok-make_header.ensures.headed c.args.b.now.limit x.items (place c.args.p) (refl, refl) x.is x.sound in
    grind arith
