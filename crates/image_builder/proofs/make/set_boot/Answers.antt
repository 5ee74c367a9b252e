use Rattle.std.proofs.Common.{refl, sym, append-nil, []}
use Rattle.image_builder.specs.Items.{Boot}
use Rattle.image_builder.proofs.Making.{laid_more}
use Rattle.image_builder.proofs.make.set_boot.Goals as goal

pub returns-clause-built : goal.returns-clause-built
returns-clause-built c = λ limit t ws h. record { limit_is = h.limit_is; limited = h.limited; laid = laid_more t ws (Boot c.args.w) _ _ [] h.laid refl refl (sym (append-nil _)) refl; named = h.named; runtime = h.runtime; all = h.all; current_is = h.current_is; record_is = h.record_is; boot_is = refl }
