use Rattle.std.proofs.Common.{◌≡◌, ◌∙◌, Some, arith}
use Rattle.colon_bodies.specs.declared.draft.Mark.TheVariants as m
use Rattle.colon_bodies.specs.Draft.{top_mark}
use Rattle.colon_bodies.proofs.Laying.{switched, if_within}
use Rattle.colon_bodies.proofs.steps.switch_else.Goals as goal

pub patch-requires : goal.patch-requires
patch-requires c =
    let d = c.requires.drafting in
    let q = c.pop_mark.ensures.top c.args.at d.outer d.is.marked in
    let e : top_mark c.args.at d.outer ≡ Some (m.If c.in-Some-If.place) = cc in
    let h = if_within c.args.at c.in-Some-If.place _ _ d.rt d.outer d.body d.half d.is e in
    omega (arith, h, c.in_ok-lay_cell-in-Some-If.ensures.longer, c.in_ok-lay_cell-in-Some-If-2.ensures.longer)

pub returns-in_ok-lay_cell-in-Some-If-2-clause-steps : goal.returns-in_ok-lay_cell-in-Some-If-2-clause-steps
returns-in_ok-lay_cell-in-Some-If-2-clause-steps c = λ rt o t r d.
    let q = c.pop_mark.ensures.top c.args.at o d.marked in
    let e : top_mark c.args.at o ≡ Some (m.If c.in-Some-If.place) = cc in
    switched rt c.args.at o t _ _ _ _ _ _ _ c.in-Some-If.place _ c.args.control c.here.result r e q.1 c.in_ok-lay_cell-in-Some-If.ensures.bytes (c.len.ensures ∙ c.lay_cell.new.image.ok.0) c.in_ok-lay_cell-in-Some-If-2.ensures.bytes c.in_ok-push-in-Some-If.ensures.items c.here.ensures d c.patch.ensures.patched
