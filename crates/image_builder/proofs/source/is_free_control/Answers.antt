use Rattle.std.proofs.Common.{◌≡◌, ◌==◌, ap, ◌∙◌}
use Rattle.std.specs.Prelude.{slice_index}
use Rattle.image_builder.specs.Items.{controls}
use Rattle.image_builder.proofs.source.is_free_control.Goals as goal

pub returns : goal.returns
returns c = λ t h.
    let e : c.cell_at.result ≡ controls t c.args.n = c.cell_at.ensures ∙ ap (λ l. slice_index l c.args.n) c.as_slice.ensures.value ∙ ap (λ f. f c.args.n) h.runtime in
    c.is_zero.ensures ∙ ap (λ v. v == 0) e
