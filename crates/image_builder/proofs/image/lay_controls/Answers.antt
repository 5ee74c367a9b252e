use Rattle.std.proofs.Common.{◌≡◌, ◌+◌, ◌++◌, length, take, sym, ap, ◌∙◌, arith}
use Rattle.std.proofs.lemmas.List.{length-take-le}
use Rattle.image_builder.specs.Items.{controls}
use Rattle.image_builder.specs.State.{all_cells}
use Rattle.image_builder.proofs.Looping.{cells_low}
use Rattle.image_builder.proofs.image.lay_controls.Goals as goal

pub slice_bounds-lay_cells-end : goal.slice_bounds-lay_cells-end
slice_bounds-lay_cells-end c =
    let n = ap length c.deref.ensures.value in
    let i = c.requires.is in
    let a = i.all in
    sym (length-take-le 32 c.deref.result.now (omega (arith, n, a)))

pub returns-clause-bytes : goal.returns-clause-bytes
returns-clause-bytes c = λ limit t h.
    let a = h.all in
    c.in_ok-lay_cells.ensures.bytes
    ∙ ap (λ l. c.args.bytes.now.items ++ l) (ap (λ l. all_cells (take 32 l)) c.deref.ensures.value ∙ cells_low 32 0 c.args.b.now.runtime.items (controls t) (omega (arith, a)) (λ i. let z : i ≡ 0 + i = omega arith in ap (λ f. f i) h.runtime ∙ ap (controls t) z))
