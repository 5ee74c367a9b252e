use Rattle.std.proofs.Common.{◌≡◌, ◌∙◌, ◌+◌, ◌==◌, get_or, drop, true, false, sym, arith}
use Rattle.std.specs.List.{list_any}
use Rattle.containers.proofs.Orders.{distinct_more, distinct_stops, distinct_end}
use Rattle.containers.proofs.order.is_distinct.Goals as goal

pub returns-then-stands_behind : goal.returns-then-stands_behind
returns-then-stands_behind c =
    let e : list_any (λ y. y == get_or c.args.numbers.now c.loop-index.index 0) (drop (c.loop-index.index + 1) c.args.numbers.now) ≡ true = sym c.stands_behind.ensures ∙ c.if-stands_behind.true in
    sym (c.loop-index.invariant ∙ distinct_stops c.args.numbers.now c.loop-index.index (omega arith) e)

pub loop-index-preserved : goal.loop-index-preserved
loop-index-preserved c =
    let e : list_any (λ y. y == get_or c.args.numbers.now c.loop-index.index 0) (drop (c.loop-index.index + 1) c.args.numbers.now) ≡ false = sym c.stands_behind.ensures ∙ c.if-stands_behind.false in
    c.loop-index.invariant ∙ distinct_more c.args.numbers.now c.loop-index.index (omega arith) e

pub returns : goal.returns
returns c = sym (c.loop-index.invariant ∙ distinct_end c.args.numbers.now c.loop-index.index (omega arith))
