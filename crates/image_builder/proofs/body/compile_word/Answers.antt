use Rattle.std.proofs.Common.{inr, ap, ◌∙◌, arith}
use Rattle.std.specs.Prelude.{Ok}
use Rattle.std.proofs.lemmas.Result.{err_from_is_err_and}
use Rattle.colon_bodies.specs.Draft.{token}
use Rattle.image_builder.specs.Places.{place}
use Rattle.image_builder.proofs.Taking.{means, means_fault, end_fault, draft_in, goes_out, word_fault, at_title, inside_goes, ends_goes}
use Rattle.image_builder.proofs.body.compile_word.Goals as goal

pub draft_word-requires-clause-drafting : goal.draft_word-requires-clause-drafting
draft_word-requires-clause-drafting c = search (arith, at_title, draft_in)

pub draft_word-requires-clause-room : goal.draft_word-requires-clause-room
draft_word-requires-clause-room c = grind (arith, at_title, c.requires.somewhere)

pub draft_word-requires-clause-limit : goal.draft_word-requires-clause-limit
draft_word-requires-clause-limit c = let s = c.requires.somewhere in let h = s.is in let b = h.built in b.limited.1

pub returns : goal.returns
returns c = λ t ws after before p titled h.
    let d = h.drafts in
    let e = at_title c.args.b.now t p c.args.p.name.items c.here.result c.len.result h.built c.here.ensures.address (omega (arith, c.args.p.name.ok.0)) titled.1 in
    inside_goes c.args.b.now c.draft_word.new.b t ws c.args.p p (place c.args.w) before (token c.in_ok-word.word) h titled c.in_ok-draft_word.ensures.kept (means c.args.b.now t ws p (place c.args.w) before h (c.in_ok-word.ensures t h.built))
    (goes_out c.args.b.now c.draft_word.new.b t p _ d.outer d.body d.half (token c.in_ok-word.word) h.built e (c.in_ok-draft_word.ensures.taken d.outer d.body d.half (draft_in c.args.b.now t ws p before _ h e) d.shallow))

pub returns-then-is_semicolon : goal.returns-then-is_semicolon
returns-then-is_semicolon c = λ t ws after before p titled h.
    let e = at_title c.args.b.now t p c.args.p.name.items c.here.result c.len.result h.built c.here.ensures.address (omega (arith, c.args.p.name.ok.0)) titled.1 in
    let x = c.is_semicolon.ensures.0 c.if-is_semicolon.true in
    ends_goes c.args.b.now c.end_body.new.b t ws p (place c.args.w) before h (means c.args.b.now t ws p (place c.args.w) before h (c.in_ok-word.ensures t h.built) ∙ ap Ok x) (c.in_ok-end_body.ensures t ws before p titled h e)

pub returns-in_err-draft_word : goal.returns-in_err-draft_word
returns-in_err-draft_word c = λ t ws after before p titled h.
    let d = h.drafts in
    let e = at_title c.args.b.now t p c.args.p.name.items c.here.result c.len.result h.built c.here.ensures.address (omega (arith, c.args.p.name.ok.0)) titled.1 in
    let q = err_from_is_err_and c.from_residual-in_err-draft_word.result c.from_residual-in_err-draft_word.ensures.1 in
    rw (q.1, q.2) (word_fault c.args.b.now t ws p (place c.args.w) before after _ (token c.in_ok-word.word) _ h e (means c.args.b.now t ws p (place c.args.w) before h (c.in_ok-word.ensures t h.built)) (c.in_err-draft_word.ensures.taken d.outer d.body d.half (draft_in c.args.b.now t ws p before _ h e) d.shallow))

pub returns-in_err-end_body : goal.returns-in_err-end_body
returns-in_err-end_body c = λ t ws after before p titled h.
    let e = at_title c.args.b.now t p c.args.p.name.items c.here.result c.len.result h.built c.here.ensures.address (omega (arith, c.args.p.name.ok.0)) titled.1 in
    let x = c.is_semicolon.ensures.0 c.if-is_semicolon.true in
    let q = err_from_is_err_and c.from_residual-in_err-end_body.result c.from_residual-in_err-end_body.ensures.1 in
    rw (q.1, q.2) (end_fault c.args.b.now.limit t p (place c.args.w) before after _ (means c.args.b.now t ws p (place c.args.w) before h (c.in_ok-word.ensures t h.built) ∙ ap Ok x) (c.in_err-end_body.ensures t ws before p titled h e))

pub returns-in_err-word : goal.returns-in_err-word
returns-in_err-word c = λ t ws after before p titled h.
    let q = err_from_is_err_and c.from_residual.result c.from_residual.ensures.1 in
    rw (q.1, q.2) (inr (means_fault c.args.b.now.limit t p (place c.args.w) before after _ (means c.args.b.now t ws p (place c.args.w) before h (c.in_err-word.ensures t h.built))))
