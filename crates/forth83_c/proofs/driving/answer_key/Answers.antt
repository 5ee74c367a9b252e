use Rattle.std.proofs.Common.{rules, arith, ◌≡◌, get_or}
use Rattle.machine_parts.specs.declared.parts.Request.TheVariants as request
use Rattle.machine.specs.Answer.{Key, answer_of}
use Rattle.forth83_c.proofs.Taking.{key_here}
use Rattle.forth83_c.proofs.Turning.{answered_on}
use Rattle.forth83_c.proofs.driving.answer_key.Goals as goal

pub returns-clause-on : goal.returns-clause-on
returns-clause-on c = λ before old typed limit d.
    let byte = get_or c.args.typed.now c.args.course.now.read 0 in
    let acts : (c.answer.new.self, c.unwrap-act.result) ≡ answer_of c.args.machine.now (Key byte) = search rules in
    rw (c.show-place.ensures.front, c.counted-course.ensures, c.ip-ip.ensures)
    (answered_on c.args.calling c.args.course.now.faults c.args.machine.now c.answer.new.self c.unwrap-act.result request.Key (Key byte) _ _ _ _ c.requires.goes c.requires.some c.requires.waits
    (key_here c.args.machine.now c.args.typed.now c.args.course.now.read (omega (arith, c.if-course-typed.false))) acts before old typed limit d)
