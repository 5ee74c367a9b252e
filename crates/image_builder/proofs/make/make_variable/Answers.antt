use Rattle.std.proofs.Common.{refl}
use Rattle.memory.specs.Bytes.{cell_bytes}
use Rattle.image_builder.specs.Places.{place}
use Rattle.image_builder.specs.declared.entry.Kind.TheVariants as k
use Rattle.image_builder.proofs.Making.{field_laid}
use Rattle.image_builder.proofs.make.make_variable.Goals as goal

pub returns-clause-built : goal.returns-clause-built
returns-clause-built c = λ limit t ws b s. let h = c.in_ok-make_header.ensures.headed limit t (place c.args.p) (refl, refl) b s in record { limit_is = h.limit_is; limited = h.limited; laid = field_laid c.make_header.new.b t ws (place c.args.p) k.Variable _ (cell_bytes 0) h c.in_ok-lay_cell.ensures.bytes refl; named = h.named; runtime = h.runtime; all = h.all; current_is = h.current_is; record_is = h.record_is; boot_is = h.boot_is }
