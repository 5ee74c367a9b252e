use Rattle.std.proofs.Common.{ap, sym, ◌∙◌}
use Rattle.machine_parts.specs.Whole.{Whole}
use Rattle.machine.specs.State.{State}
use Rattle.machine.proofs.Lending.{named}
use Rattle.machine.proofs.rest.part.Goals as goal

pub returns-clause-same : goal.returns-clause-same
returns-clause-same c = λ name here.
    named _ _ name (ap (λ (w : Whole). w.place) c.parts.view_is ∙ ap (λ (s : State). s.parts.place) (sym c.into_parts-parts.ensures) ∙ here)
