use Rattle.std.proofs.Common.{rules}
use Rattle.inner_interpreter.proofs.Faultless.{went_read}
use Rattle.inner_interpreter.proofs.Moving.{moved_none, moved_still, moved_went, moved_went_part, kept_appends}
use Rattle.inner_interpreter.proofs.Running.{asked_none, runs_running, went_at, went_cut, answer_at, answer_cut, flush_cut, kept_at, on_ok_then}
use Rattle.inner_interpreter.proofs.Tracked.{went_first, still_first}
use Rattle.inner_interpreter.proofs.rounds.make_rounds.Goals as goal

pub returns-in-Ok-clause-moved : goal.returns-in-Ok-clause-moved
returns-in-Ok-clause-moved g c =
    moved_went _ _ _ _ _ _ _ _ _ (runs_running _ c.requires.goes (asked_none _ (search rules))) c.ticks_onward-made.ensures.ran c.ticks_onward-made.ensures.most c.in-Ok.ensures.ok

pub returns-in-Err-clause-moved : goal.returns-in-Err-clause-moved
returns-in-Err-clause-moved g c =
    moved_went_part _ _ _ _ _ _ _ _ _ (runs_running _ c.requires.goes (asked_none _ (search rules))) c.ticks_onward-made.ensures.ran c.ticks_onward-made.ensures.most c.in-Err.ensures.err

pub returns-in-Ok-clause-read : goal.returns-in-Ok-clause-read
returns-in-Ok-clause-read g c = went_read _ c.args.machine.now _ _ c.ticks_onward-made.ensures.ran

pub returns-in-Ok-clause-ok : goal.returns-in-Ok-clause-ok
returns-in-Ok-clause-ok g c = λ w at.
    let on = c.ticks_onward-made.ensures in
    went_at _ w c.args.machine.now _ _ _ _ _ _ _ _ c.requires.goes (asked_none _ (search rules)) on.ran on.some on.most on.unmet c.in-Ok.ensures.ok at

pub returns-in-Err-clause-cut : goal.returns-in-Err-clause-cut
returns-in-Err-clause-cut g c = λ failed w at.
    let on = c.ticks_onward-made.ensures in
    went_cut _ w c.args.machine.now _ _ _ _ _ _ _ _ c.requires.goes (asked_none _ (search rules)) on.ran on.some on.most on.unmet c.in-Err.ensures.err at

pub returns-in-Ok-flush_before-clause-ok : goal.returns-in-Ok-flush_before-clause-ok
returns-in-Ok-flush_before-clause-ok g c =
    on_ok_then c.make_answer.result _ _ (λ told w at. answer_at _ w _ _ _ _ _ _ _ _ _ _ c.requires.goes c.requires.some (search rules) told (kept_at w _ _ _ _ _ _ c.in-Ok-flush_before.ensures.bytes at)) c.make_answer.ensures.ok

pub returns-in-Ok-flush_before-clause-cut : goal.returns-in-Ok-flush_before-clause-cut
returns-in-Ok-flush_before-clause-cut g c = λ failed w at.
    answer_cut _ w _ _ _ _ _ _ _ _ _ _ c.requires.goes c.requires.some (search rules) (c.make_answer.ensures.cut failed) (kept_at w _ _ _ _ _ _ c.in-Ok-flush_before.ensures.bytes at)

pub returns-in-Err-flush_before-clause-moved : goal.returns-in-Err-flush_before-clause-moved
returns-in-Err-flush_before-clause-moved g c = moved_still _ _ _ _ _ _ (moved_none _ _ _ _ _ _ (kept_appends _ _ c.in-Err-flush_before.ensures.bytes))

pub returns-in-Err-flush_before-clause-cut : goal.returns-in-Err-flush_before-clause-cut
returns-in-Err-flush_before-clause-cut g c = λ failed w at. flush_cut _ w _ _ _ _ _ _ c.in-Some.request (search rules) c.in-Err-flush_before.ensures.asked c.in-Err-flush_before.ensures.bytes at

pub returns-in-Ok-clause-lines : goal.returns-in-Ok-clause-lines
returns-in-Ok-clause-lines g c =
    let on = c.ticks_onward-made.ensures in
    went_first _ _ _ _ _ _ (runs_running _ c.requires.goes (asked_none _ (search rules))) on.ran on.some on.most on.unmet

pub returns-in-Err-clause-lines : goal.returns-in-Err-clause-lines
returns-in-Err-clause-lines g c =
    let on = c.ticks_onward-made.ensures in
    went_first _ _ _ _ _ _ (runs_running _ c.requires.goes (asked_none _ (search rules))) on.ran on.some on.most on.unmet

pub returns-in-Ok-flush_before-clause-lines : goal.returns-in-Ok-flush_before-clause-lines
returns-in-Ok-flush_before-clause-lines g c = still_first _ _ _ c.in-Some.request (search rules)

pub returns-in-Err-flush_before-clause-lines : goal.returns-in-Err-flush_before-clause-lines
returns-in-Err-flush_before-clause-lines g c = still_first _ _ _ c.in-Some.request (search rules)
