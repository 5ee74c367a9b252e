use Rattle.std.proofs.Common.{◌≡◌, ◌∙◌, Some}
use Rattle.colon_bodies.specs.declared.draft.Mark.TheVariants as m
use Rattle.colon_bodies.specs.Draft.{top_mark}
use Rattle.colon_bodies.proofs.Laying.{tested}
use Rattle.colon_bodies.proofs.steps.test_while.Goals as goal

pub returns-in_ok-lay_cell-in-Some-Begin-2-clause-steps : goal.returns-in_ok-lay_cell-in-Some-Begin-2-clause-steps
returns-in_ok-lay_cell-in-Some-Begin-2-clause-steps c = λ rt at o t r d.
    let q = c.pop_mark.ensures.top at o d.marked in
    let e : top_mark at o ≡ Some (m.Begin c.in-Some-Begin.target) = cc in
    tested rt at o t _ _ _ _ _ _ c.in-Some-Begin.target _ c.args.control r e q.1 c.in_ok-lay_cell-in-Some-Begin.ensures.bytes (c.len.ensures ∙ c.lay_cell.new.image.ok.0) c.in_ok-lay_cell-in-Some-Begin-2.ensures.bytes c.in_ok-push-in-Some-Begin.ensures.items d
