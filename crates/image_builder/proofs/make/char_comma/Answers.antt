use Rattle.std.proofs.Common.{refl, ◌∷◌, [], ◌%◌}
use Rattle.image_builder.specs.Items.{Byte}
use Rattle.image_builder.proofs.Making.{laid_more}
use Rattle.image_builder.proofs.make.char_comma.Goals as goal

pub returns-clause-built : goal.returns-clause-built
returns-clause-built c = λ limit t ws h. record { limit_is = h.limit_is; limited = h.limited; laid = laid_more t ws (Byte c.args.n) _ _ (c.args.n % 256 ∷ []) h.laid refl refl c.in_ok-push.ensures.items refl; named = h.named; runtime = h.runtime; all = h.all; current_is = h.current_is; record_is = h.record_is; boot_is = h.boot_is }
