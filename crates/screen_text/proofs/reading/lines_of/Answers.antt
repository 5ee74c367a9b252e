use Rattle.std.proofs.Common.{rules, arith}
use Rattle.std.proofs.lemmas.Grind.{common_steps}
use Rattle.screen_text.proofs.Splitting.{read_all, read_on}
use Rattle.screen_text.proofs.reading.lines_of.Goals as goal

pub loop-rest-preserved : goal.loop-rest-preserved
loop-rest-preserved c =
    let items = c.in_ok-push.ensures.items in
    let is = c.without_end.ensures in
    let len = c.line_len.ensures in
    let front = c.split_at.ensures.front in
    let back = c.split_at.ensures.back in
    let before = c.loop-rest.invariant in
    let test = c.loop-rest-test.ensures in
    grind (arith, common_steps, read_on)

pub returns : goal.returns
returns c = read_all _ _ _ c.loop-rest.invariant (search rules)
