use Rattle.std.proofs.Common.{sym, ◌∙◌}
use Rattle.advice.proofs.Sizes.{digits_end, filled, value_end}
use Rattle.advice.proofs.numbers.value_of.Goals as goal

pub returns : goal.returns
returns c =
    let h = c.loop-byte-test.false in
    let i = c.loop-byte.invariant in
    (filled _ _ c.is_empty.ensures c.if-is_empty.false, i.0 ∙ digits_end _ _ _ h, sym (i.1 ∙ value_end _ _ _ _ h i.2))
