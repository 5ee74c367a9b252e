use Rattle.std.proofs.Common.{subst}
use Rattle.image_builder.specs.Places.{place}
use Rattle.image_builder.specs.State.{Shows}
use Rattle.image_builder.proofs.Taking.{at_whole, at_due, at_chosen, at_inside}
use Rattle.image_builder.proofs.source.read_word.Goals as goal

pub returns-in-Whole : goal.returns-in-Whole
returns-in-Whole c = λ t ws after stage s h.
    rw c.at.ensures (at_whole c.args.b.now c.begin_item.new.b (place c.args.w) _ c.begin_item.ensures t ws after stage (subst (λ x. Shows x ws stage) c.in-Whole.is s) h)

pub returns-in-Due : goal.returns-in-Due
returns-in-Due c = λ t ws after stage s h.
    rw c.at-in-Due.ensures (at_due c.args.b.now c.name_item.new.b c.in-Due.lead (place c.args.w) _ c.name_item.ensures t ws after stage (subst (λ x. Shows x ws stage) c.in-Due.is s) h)

pub returns-in-Chosen : goal.returns-in-Chosen
returns-in-Chosen c = λ t ws after stage s h.
    rw c.at-in-Chosen.ensures (at_chosen c.args.b.now c.expect_definitions.new.b c.in-Chosen.v (place c.args.w) _ c.expect_definitions.ensures t ws after stage (subst (λ x. Shows x ws stage) c.in-Chosen.is s) h)

pub returns-in-Inside : goal.returns-in-Inside
returns-in-Inside c = λ t ws after stage s h.
    rw c.at-in-Inside.ensures (at_inside c.args.b.now c.compile_word.new.b c.in-Inside.p (place c.args.w) _ c.compile_word.ensures t ws after stage (subst (λ x. Shows x ws stage) c.in-Inside.is s) h)
