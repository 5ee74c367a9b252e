use Rattle.std.proofs.Common.{◌≡◌, Some, arith}
use Rattle.colon_bodies.specs.declared.draft.Mark.TheVariants as m
use Rattle.colon_bodies.specs.Draft.{top_mark}
use Rattle.colon_bodies.proofs.Laying.{looped, do_within}
use Rattle.colon_bodies.proofs.steps.close_loop.Goals as goal

pub body_of-requires-clause-within : goal.body_of-requires-clause-within
body_of-requires-clause-within c =
    let d = c.requires.drafting in
    let q = c.pop_mark.ensures.top c.args.at d.outer d.is.marked in
    let e : top_mark c.args.at d.outer ≡ Some (m.Do c.in-Some-Do.place) = cc in
    let h = do_within c.args.at c.in-Some-Do.place _ _ d.rt d.outer d.body d.half d.is e in
    omega (arith, h, c.in_ok-lay_cell-in-Some-Do.ensures.longer)

pub patch-requires : goal.patch-requires
patch-requires c =
    let d = c.requires.drafting in
    let q = c.pop_mark.ensures.top c.args.at d.outer d.is.marked in
    let e : top_mark c.args.at d.outer ≡ Some (m.Do c.in-Some-Do.place) = cc in
    let h = do_within c.args.at c.in-Some-Do.place _ _ d.rt d.outer d.body d.half d.is e in
    omega (arith, h, c.in_ok-lay_cell-in-Some-Do.ensures.longer, c.in_ok-lay_cell-in-Some-Do-2.ensures.longer)

pub returns-in_ok-lay_cell-in-Some-Do-2-clause-steps : goal.returns-in_ok-lay_cell-in-Some-Do-2-clause-steps
returns-in_ok-lay_cell-in-Some-Do-2-clause-steps c = λ rt o t k r d.
    let q = c.pop_mark.ensures.top c.args.at o d.marked in
    let e : top_mark c.args.at o ≡ Some (m.Do c.in-Some-Do.place) = cc in
    looped rt k c.args.at o t _ _ _ _ _ _ c.body_of.result c.in-Some-Do.place c.args.control c.here.result r e q.1 c.body_of.ensures c.in_ok-lay_cell-in-Some-Do.ensures.bytes c.in_ok-lay_cell-in-Some-Do-2.ensures.bytes c.here.ensures d c.patch.ensures.patched
