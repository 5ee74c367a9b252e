use Rattle.std.proofs.Common.{◌∙◌, sym, arith}
use Rattle.screen_text.proofs.Blanks.{bad_more, bad_here, bad_end}
use Rattle.screen_text.proofs.bytes.bad_byte.Goals as goal

pub returns-then-not-may_stand : goal.returns-then-not-may_stand
returns-then-not-may_stand c = sym (c.loop-byte.invariant ∙ bad_here c.args.line.now c.loop-byte.byte-index (omega arith) (sym c.may_stand.ensures ∙ c.if-not-may_stand.true))

pub loop-byte-preserved : goal.loop-byte-preserved
loop-byte-preserved c = c.loop-byte.invariant ∙ bad_more c.args.line.now c.loop-byte.byte-index (omega arith) (sym c.may_stand.ensures ∙ c.if-not-may_stand.false)

pub returns : goal.returns
returns c = sym (c.loop-byte.invariant ∙ bad_end c.args.line.now c.loop-byte.byte-index (omega arith))
