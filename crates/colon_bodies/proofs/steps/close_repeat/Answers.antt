use Rattle.std.proofs.Common.{◌≡◌, Some, arith}
use Rattle.colon_bodies.specs.declared.draft.Mark.TheVariants as m
use Rattle.colon_bodies.specs.Draft.{top_mark}
use Rattle.colon_bodies.proofs.Laying.{repeated, while_within}
use Rattle.colon_bodies.proofs.steps.close_repeat.Goals as goal

pub patch-requires : goal.patch-requires
patch-requires c =
    let d = c.requires.drafting in
    let q = c.pop_mark.ensures.top c.args.at d.outer d.is.marked in
    let e : top_mark c.args.at d.outer ≡ Some (m.While c.in-Some-While.target c.in-Some-While.place) = cc in
    let h = while_within c.args.at c.in-Some-While.target c.in-Some-While.place _ _ d.rt d.outer d.body d.half d.is e in
    omega (arith, h, c.in_ok-lay_cell-in-Some-While.ensures.longer, c.in_ok-lay_cell-in-Some-While-2.ensures.longer)

pub returns-in_ok-lay_cell-in-Some-While-2-clause-steps : goal.returns-in_ok-lay_cell-in-Some-While-2-clause-steps
returns-in_ok-lay_cell-in-Some-While-2-clause-steps c = λ rt o t r d.
    let q = c.pop_mark.ensures.top c.args.at o d.marked in
    let e : top_mark c.args.at o ≡ Some (m.While c.in-Some-While.target c.in-Some-While.place) = cc in
    repeated rt c.args.at o t _ _ _ _ _ _ c.in-Some-While.target c.in-Some-While.place c.args.control c.here.result r e q.1 c.in_ok-lay_cell-in-Some-While.ensures.bytes c.in_ok-lay_cell-in-Some-While-2.ensures.bytes c.here.ensures d c.patch.ensures.patched
