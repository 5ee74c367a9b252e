use Rattle.std.proofs.Common.{ap, ◌∙◌, ◌++◌, ◌∷◌, [], append_assoc, add-one}
use Rattle.image_builder.specs.Items.{zero_bytes}
use Rattle.image_builder.proofs.Making.{zeros_more}
use Rattle.image_builder.proofs.make.lay_zeros.Goals as goal

pub loop-preserved : goal.loop-preserved
loop-preserved c = rw add-one (c.in_ok-push.ensures.items ∙ ap (λ l. l ++ 0 ∷ []) c.loop.invariant ∙ append_assoc c.args.image.now.items (zero_bytes c.loop.counter) (0 ∷ []) ∙ ap (λ l. c.args.image.now.items ++ l) (zeros_more c.loop.counter))
