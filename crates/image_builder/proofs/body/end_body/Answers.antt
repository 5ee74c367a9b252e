use Rattle.std.proofs.Common.{refl, sym, ap, subst, ◌∙◌}
use Rattle.std.specs.Prelude.{slice_index}
use Rattle.std.proofs.lemmas.Result.{err_from_is_err_and}
use Rattle.colon_bodies.specs.Draft.{IsBlank}
use Rattle.image_builder.proofs.Taking.{taken_out, ended_cause, ended_in, ended_ends, same_built}
use Rattle.image_builder.proofs.body.end_body.Goals as goal

pub returns-in_err-finish : goal.returns-in_err-finish
returns-in_err-finish c = λ t ws before p titled h e.
    let d = h.drafts in
    let f = c.in_err-finish.ensures.ended (slice_index c.args.b.now.runtime.items) d.outer d.body d.half (ap (λ l. slice_index l 5) (sym c.as_slice.ensures.value) ∙ sym c.cell_of-exit.ensures) (taken_out c.args.b.now t ws p before _ _ h e c.replace-draft.ensures.value) d.shallow in
    let q = err_from_is_err_and c.from_residual.result c.from_residual.ensures.1 in
    rw q.1 (ended_cause c.args.b.now t ws p before c.args.at _ _ h e q.2 f)

pub returns : goal.returns
returns c = λ t ws before p titled h e.
    let d = h.drafts in
    let f = ended_in c.args.b.now t ws p before c.args.at c.finish.new.d.image.items h e (c.in_ok-finish.ensures.ended (slice_index c.args.b.now.runtime.items) d.outer d.body d.half (ap (λ l. slice_index l 5) (sym c.as_slice.ensures.value) ∙ sym c.cell_of-exit.ensures) (taken_out c.args.b.now t ws p before _ _ h e c.replace-draft.ensures.value) d.shallow) in
    ended_ends c.args.b.now c.make_colon.new.b t ws p before c.finish.new.d.image.items h f
    (λ vs. c.in_ok-make_colon.ensures.built c.args.b.now.limit t vs f.body p titled (same_built c.args.b.now _ t h.built (record { limit = refl; image = refl; names = refl; runtime = refl; current = refl; newest_record = refl; boot = refl })) h.sound (c.as_slice-2.ensures.value ∙ f.bytes))
    (subst (λ v. IsBlank v) (sym (c.in_ok-make_colon.ensures.kept ∙ c.replace-draft.ensures.after)) c.new.ensures)
