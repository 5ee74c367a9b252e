use Rattle.std.proofs.Common.{◌∙◌, sym, arith}
use Rattle.block_buffers.proofs.Trying.{differ_more, differ_stops, differ_end}
use Rattle.block_buffers.proofs.entries.slots_differ.Goals as goal

pub returns-then-stands_behind : goal.returns-then-stands_behind
returns-then-stands_behind c =
    sym (c.loop-place.invariant ∙ differ_stops c.args.entries.now c.loop-place.place _ (omega arith) (sym c.stands_behind.ensures ∙ c.if-stands_behind.true))

pub loop-place-preserved : goal.loop-place-preserved
loop-place-preserved c =
    c.loop-place.invariant ∙ differ_more c.args.entries.now c.loop-place.place _ (omega arith) (sym c.stands_behind.ensures ∙ c.if-stands_behind.false)

pub returns : goal.returns
returns c = sym (c.loop-place.invariant ∙ differ_end c.args.entries.now c.loop-place.place (omega arith))
