use Rattle.std.proofs.Common.{◌∙◌}
use Rattle.std.specs.Prelude.{slice_index}
use Rattle.colon_bodies.proofs.compiling.lay.Goals as goal

pub returns-in_ok-complete_half-clause-taken : goal.returns-in_ok-complete_half-clause-taken
returns-in_ok-complete_half-clause-taken c = λ o t h s d.
    c.in_ok-complete_half.ensures.steps (slice_index c.args.runtime.now) c.args.at o t h c.args.d.now.marks.items (λ e. c.is_free.ensures.no c.if-is_free.false (d.half_is ∙ e)) s d.is
