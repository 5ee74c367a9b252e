use Rattle.std.proofs.Common.{arith, ◌∙◌, ap, sym, subst, map, length}
use Rattle.std.proofs.lemmas.Iterator.Consumers.{YieldsList-at, YieldsList-end, YieldsList-turn}
use Rattle.std.proofs.lemmas.List.Elements.{All-get_or}
use Rattle.std.proofs.lemmas.Iterator.Splits.{YieldsList-from_str_split}
use Rattle.file_subcommands.specs.Filed.{IsShort}
use Rattle.std.specs.Str.Parse.{digits_value, without_leading_plus}
use Rattle.file_subcommands.proofs.disks.numbers_of.Goals as goal

-- the loop has gone over just the parts of the text
pub returns-clause-numbers : goal.returns-clause-numbers
returns-clause-numbers c =
    let seen = YieldsList-end
    (YieldsList-at c.into_iter-number-iterator.ensures.into_iter_gives
    (YieldsList-from_str_split 44 c.args.text.now (omega arith) c.split-number-items.ensures.text c.split-number-items.ensures.has_more c.split-number-items.ensures.pattern))
    c.loop-number.yielded _ c.loop-number.yielded_by _ _ c.in-None.is c.next.ensures.steps in
    c.loop-number.invariant ∙ ap (map (λ part. digits_value 10 (without_leading_plus part))) seen.0

-- a part that is no number of 16 bits
pub returns-in_default-clause-none : goal.returns-in_default-clause-none
returns-in_default-clause-none c = λ e numbers.
    let turn = YieldsList-turn
    (YieldsList-at c.into_iter-number-iterator.ensures.into_iter_gives
    (YieldsList-from_str_split 44 c.args.text.now (omega arith) c.split-number-items.ensures.text c.split-number-items.ensures.has_more c.split-number-items.ensures.pattern))
    c.loop-number.yielded _ c.loop-number.yielded_by _ _ _ c.in-Some.is c.next.ensures.steps in
    c.in_default.ensures.value.0 (subst IsShort (sym turn.1)
    (All-get_or IsShort _ (length c.loop-number.yielded) c.in-Some.number.now turn.0 numbers))
