use Rattle.std.proofs.Common.{sym, ◌∙◌}
use Rattle.image_builder.proofs.Making.{colon_laid}
use Rattle.image_builder.proofs.make.make_colon.Goals as goal

pub returns-clause-built : goal.returns-clause-built
returns-clause-built c = λ limit t ws body q n b s d.
    let h = c.in_ok-make_header.ensures.headed limit t q (n.0, n.1 ∙ sym c.as_slice.ensures.value) b s in
    record { limit_is = h.limit_is; limited = h.limited; laid = colon_laid c.make_header.new.b t ws q body _ _ h c.in_ok-extend_from_slice.ensures.items d; named = h.named; runtime = h.runtime; all = h.all; current_is = h.current_is; record_is = h.record_is; boot_is = h.boot_is }
