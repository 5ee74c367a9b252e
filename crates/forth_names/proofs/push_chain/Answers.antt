use Rattle.std.proofs.Common.{rules}
use Rattle.memory.specs.Mirrored.{stored}
use Rattle.dictionary.specs.Order.{members}
use Rattle.forth_names.proofs.Chains.{onward, whole_at_cut, whole_at_end}
use Rattle.forth_names.proofs.push_chain.Goals as goal

pub loop-left-preserved : goal.loop-left-preserved
loop-left-preserved c =
    rw c.cell-l-in-loop-left.ensures
    (onward (stored c.args.memory.now) c.loop-left.left c.loop-left.l c.loop-left.names.items _ _ (search rules) (search rules) c.in_ok-push_name.ensures c.loop-left.invariant)

pub returns-else-l-ne0 : goal.returns-else-l-ne0
unfolding members
returns-else-l-ne0 c = whole_at_end (stored c.args.memory.now) c.loop-left.left c.loop-left.l _ _ (search rules) c.loop-left.invariant

pub returns-after-loop-left : goal.returns-after-loop-left
unfolding members
returns-after-loop-left c = whole_at_cut (stored c.args.memory.now) c.loop-left.left c.loop-left.l _ _ (search rules) c.loop-left.invariant
