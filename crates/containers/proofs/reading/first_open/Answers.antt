use Rattle.std.proofs.Common.{◌∙◌, sym, arith}
use Rattle.containers.specs.Containers.{sectors}
use Rattle.containers.proofs.Places.{open_more, open_here, open_none}
use Rattle.containers.proofs.reading.first_open.Goals as goal

pub returns-then-not-is_ended : goal.returns-then-not-is_ended
returns-then-not-is_ended c = sym (c.loop-at.invariant ∙ open_here c.args.layout.now c.args.container.now c.loop-at.at (sectors c.args.layout.now c.args.container.now) (omega (arith, c.sectors-at-end.ensures)) (sym c.is_ended.ensures ∙ c.if-not-is_ended.true))

pub loop-at-preserved : goal.loop-at-preserved
loop-at-preserved c = c.loop-at.invariant ∙ open_more c.args.layout.now c.args.container.now c.loop-at.at (sectors c.args.layout.now c.args.container.now) (omega (arith, c.sectors-at-end.ensures)) (sym c.is_ended.ensures ∙ c.if-not-is_ended.false)

pub returns : goal.returns
returns c = sym (c.loop-at.invariant ∙ open_none c.args.layout.now c.args.container.now c.loop-at.at (sectors c.args.layout.now c.args.container.now) (omega (arith, c.sectors-at-end.ensures)))
