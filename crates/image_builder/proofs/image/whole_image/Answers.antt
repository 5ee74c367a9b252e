use Rattle.std.proofs.Common.{◌∙◌}
use Rattle.image_builder.proofs.Looping.{image_laid}
use Rattle.image_builder.proofs.image.whole_image.Goals as goal

pub returns-clause-bytes : goal.returns-clause-bytes
returns-clause-bytes c = λ limit t h.
    image_laid t _ _ _ _ _ _ c.new-bytes.ensures.items (c.in_ok-lay_system.ensures.bytes limit t h) (c.in_ok-lay_controls.ensures.bytes limit t h) c.in_ok-lay_zeros.ensures.bytes c.in_ok-extend_from_slice.ensures.items (c.as_slice.ensures.value ∙ h.laid)
