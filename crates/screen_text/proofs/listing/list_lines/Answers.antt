use Rattle.std.proofs.Common.{arith}
use Rattle.screen_text.proofs.Lines.{lists_all, lists_more}
use Rattle.screen_text.proofs.listing.list_lines.Goals as goal

pub loop-index-preserved : goal.loop-index-preserved
loop-index-preserved c =
    let added = c.in_ok-push_line.ensures in
    grind (arith, lists_more)

pub returns : goal.returns
returns c = lists_all _ _ c.args.lines.now c.loop-index.index (omega arith) c.loop-index.invariant
