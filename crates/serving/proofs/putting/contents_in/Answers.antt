use Rattle.std.proofs.Common.{◌∙◌}
use Rattle.serving.proofs.Restoring.{AreOf, entries_read, front_read, made_is, returns_read, values_read}
use Rattle.serving.proofs.putting.contents_in.Goals as goal

pub returns-in_default-clause-none : goal.returns-in_default-clause-none
returns-in_default-clause-none c = λ t m e. c.in_default.ensures.none t.parts.buffers m.buffers (c.parts_of.ensures.third ∙ entries_read c.args.front c.args.rest.now t (front_read c.args.front c.args.rest.now t e))

pub returns-clause-some : goal.returns-clause-some
returns-clause-some c = λ t e.
    let a : AreOf c.args.front c.args.rest.now t = front_read c.args.front c.args.rest.now t e in
    rw (c.marked.ensures, c.wait_of.ensures, c.halt_of.ensures) (made_is c.args.front c.args.rest.now t c.stack_in.result c.stack_in-2.result c.in-Some.buffers a
    (values_read c.args.front c.args.rest.now t c.stack_in.result a (c.stack_in.ensures ∙ c.parts_of.ensures.first))
    (returns_read c.args.front c.args.rest.now t c.stack_in-2.result a (c.stack_in-2.ensures ∙ c.parts_of.ensures.second))
    (c.in-Some.ensures.some t.parts.buffers (c.parts_of.ensures.third ∙ entries_read c.args.front c.args.rest.now t a)))
