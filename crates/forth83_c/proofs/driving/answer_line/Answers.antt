use Rattle.std.proofs.Common.{◌≡◌, ◌+◌, ◌∙◌, sym, ap, subst, drop, take}
use Rattle.std.proofs.lemmas.List.{drop-drop}
use Rattle.machine_parts.specs.declared.parts.Request.TheVariants as request
use Rattle.inner_interpreter.specs.Lines.{line_reply}
use Rattle.forth83_c.specs.Driven.{IsDriven}
use Rattle.forth83_c.proofs.Taking.{line_there}
use Rattle.forth83_c.proofs.Turning.{answered_on}
use Rattle.forth83_c.proofs.driving.answer_line.Goals as goal

pub returns-clause-on : goal.returns-clause-on
returns-clause-on c = λ before old typed limit d.
    let unread = c.behind-unread.result.now in
    let bytes = take c.in-Some.line.count unread in
    let here : unread ≡ drop c.args.course.now.read c.args.typed.now = c.behind-unread.ensures in
    let on : drop (c.args.course.now.read + c.in-Some.line.next) c.args.typed.now ≡ drop c.in-Some.line.next unread =
    sym (drop-drop c.in-Some.line.next c.args.course.now.read c.args.typed.now) ∙ ap (drop c.in-Some.line.next) (sym here) in
    rw (c.show-place.ensures.front, c.counted-course.ensures, c.ip-ip.ensures, on)
    (answered_on c.args.calling c.args.course.now.faults c.args.machine.now c.give_line-act.new.machine c.give_line-act.result (request.Line c.args.n) (line_reply bytes c.in-Some.line.returned) unread (drop c.in-Some.line.next unread) _ _ c.requires.goes c.requires.some c.requires.waits
    (line_there c.args.machine.now c.args.n unread _ bytes c.in-Some.line.returned c.in-Some.ensures.line) c.give_line-act.ensures.answered before old typed limit
    (subst (λ u. IsDriven c.args.calling before old typed limit c.args.course.now.faults c.args.machine.now u (take c.args.course.now.shown c.args.out.now) c.args.course.now.left) (sym here) d))
