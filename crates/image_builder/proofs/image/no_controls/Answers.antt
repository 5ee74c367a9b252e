use Rattle.std.proofs.Common.{ap, ◌∙◌, ◌++◌, ◌∷◌, [], add-one}
use Rattle.image_builder.proofs.Making.{zeros_more}
use Rattle.image_builder.proofs.image.no_controls.Goals as goal

pub loop-preserved : goal.loop-preserved
loop-preserved c = rw add-one (c.in_ok-push.ensures.items ∙ ap (λ l. l ++ 0 ∷ []) c.loop.invariant ∙ zeros_more c.loop.counter)
