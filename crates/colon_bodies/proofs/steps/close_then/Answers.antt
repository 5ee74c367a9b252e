use Rattle.std.proofs.Common.{◌≡◌, Some}
use Rattle.colon_bodies.specs.declared.draft.Mark.TheVariants as m
use Rattle.colon_bodies.specs.Draft.{top_mark}
use Rattle.colon_bodies.proofs.Laying.{then_if, then_else, if_within, else_within}
use Rattle.colon_bodies.proofs.steps.close_then.Goals as goal

pub patch-requires : goal.patch-requires
patch-requires c =
    let d = c.requires.drafting in
    let q = c.pop_mark.ensures.top c.args.at d.outer d.is.marked in
    let e : top_mark c.args.at d.outer ≡ Some (m.If c.in-Some-If.place) = cc in
    if_within c.args.at c.in-Some-If.place _ _ d.rt d.outer d.body d.half d.is e

pub patch-requires-in-Some-Else : goal.patch-requires-in-Some-Else
patch-requires-in-Some-Else c =
    let d = c.requires.drafting in
    let q = c.pop_mark.ensures.top c.args.at d.outer d.is.marked in
    let e : top_mark c.args.at d.outer ≡ Some (m.Else c.in-Some-Else.place) = cc in
    else_within c.args.at c.in-Some-Else.place _ _ d.rt d.outer d.body d.half d.is e

pub returns-in-Some-If-clause-steps : goal.returns-in-Some-If-clause-steps
returns-in-Some-If-clause-steps c = λ rt o t d.
    let q = c.pop_mark.ensures.top c.args.at o d.marked in
    let e : top_mark c.args.at o ≡ Some (m.If c.in-Some-If.place) = cc in
    then_if rt c.args.at o t _ _ _ _ c.in-Some-If.place c.here.result e q.1 c.here.ensures d c.patch.ensures.patched

pub returns-in-Some-Else-clause-steps : goal.returns-in-Some-Else-clause-steps
returns-in-Some-Else-clause-steps c = λ rt o t d.
    let q = c.pop_mark.ensures.top c.args.at o d.marked in
    let e : top_mark c.args.at o ≡ Some (m.Else c.in-Some-Else.place) = cc in
    then_else rt c.args.at o t _ _ _ _ c.in-Some-Else.place c.here-in-Some-Else.result e q.1 c.here-in-Some-Else.ensures d c.patch-in-Some-Else.ensures.patched
