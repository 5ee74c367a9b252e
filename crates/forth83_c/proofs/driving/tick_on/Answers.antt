use Rattle.forth83_c.proofs.Counting.{unpassed}
use Rattle.forth83_c.proofs.Turning.{ticked_on}
use Rattle.forth83_c.proofs.driving.tick_on.Goals as goal

pub returns-clause-on : goal.returns-clause-on
returns-clause-on c = λ unread before old typed limit d.
    let made = c.ticks-made.result in
    let left = c.args.course.now.left in
    rw (c.show-place.ensures.front, c.counted-course.ensures)
    (ticked_on c.args.calling c.args.course.now.faults c.args.machine.now c.ticks-made.new.machine unread _ _ made.count made.from made.act c.requires.runs.0 c.requires.runs.1
    c.ticks-made.ensures.most c.ticks-made.ensures.ran c.ticks-made.ensures.from
    (λ yes. unpassed c.args.machine.now c.ticks-made.new.machine made.count left made.act c.requires.runs.0 c.requires.runs.1 (c.requires.called yes)
    c.ticks-made.ensures.some c.ticks-made.ensures.most c.ticks-made.ensures.ran (c.ticks-made.ensures.unmet yes))
    before old typed limit d)
