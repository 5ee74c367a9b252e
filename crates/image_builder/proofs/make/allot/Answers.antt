use Rattle.std.proofs.Common.{refl}
use Rattle.image_builder.specs.Items.{Allot, zero_bytes}
use Rattle.image_builder.proofs.Making.{laid_more}
use Rattle.image_builder.proofs.make.allot.Goals as goal

pub returns-clause-built : goal.returns-clause-built
returns-clause-built c = λ limit t ws h. record { limit_is = h.limit_is; limited = h.limited; laid = laid_more t ws (Allot c.args.n) _ _ (zero_bytes c.args.n) h.laid refl refl c.in_ok-lay_zeros.ensures.bytes refl; named = h.named; runtime = h.runtime; all = h.all; current_is = h.current_is; record_is = h.record_is; boot_is = h.boot_is }
