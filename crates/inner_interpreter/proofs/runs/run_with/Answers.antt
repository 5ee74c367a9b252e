use Rattle.std.proofs.Common.{rules, arith, true, false, ap, Err, ◌∙◌}
use Rattle.inner_interpreter.specs.declared.stop.Stop.TheVariants as stop
use Rattle.inner_interpreter.specs.Tracing.{EndsTraced}
use Rattle.inner_interpreter.proofs.Moving.{moved_as}
use Rattle.inner_interpreter.specs.Failing.{sends_all}
use Rattle.inner_interpreter.proofs.Ended.{none_made, more_made, made_cause, made_limit, made_cut, made_untraced, line_untraced, rounds_cut, rounds_faulted, done_so, not_limit, not_input_fault}
use Rattle.inner_interpreter.proofs.Tracked.{traced_none, traced_on, traced_kept, traced_run, traced_cut}
use Rattle.inner_interpreter.proofs.runs.run_with.Goals as goal

pub loop-cause-init : goal.loop-cause-init
loop-cause-init g c = record {
  room = search rules;
  reader = search rules;
  writer = search rules;
  trace = search rules;
  few = omega arith;
  read = λ h. h;
  traced = traced_none _ _ _ _ _ _ _ _;
  made = λ w at. none_made _ _ w _ _ _ _ _ _ at;
}

pub loop-cause-preserved : goal.loop-cause-preserved
loop-cause-preserved g c = record {
  room = search rules;
  reader = search rules;
  writer = search rules;
  trace = search rules;
  few = omega (arith, c.loop-cause.invariant.few, c.make_rounds.ensures.left);
  read = λ h. search rules;
  traced = traced_on true c.loop-cause.invariant.few c.make_rounds.ensures.left c.loop-cause.invariant.traced c.in-Ok-make_rounds.ensures.moved (rw (← c.extent-extent.ensures) c.make_rounds.ensures.lines) (search rules);
  made = λ w at. more_made _ _ w _ _ _ _ _ _ _ _ _ _ _ _ _ (search rules) (omega arith) (search rules) (λ v here. rw (← c.extent-extent.ensures) (c.in-Ok-make_rounds.ensures.ok v here)) (c.loop-cause.invariant.made w at);
}

pub returns-in-Some-clause-runs : goal.returns-in-Some-clause-runs
returns-in-Some-clause-runs g c = record {
  whole = λ fine good kept w at.
      let ends = made_cause _ _ w _ _ _ _ _ _ _ _ _ c.in-Some.cause (search rules) c.finish.ensures.bytes c.finish.ensures.lines (c.loop-cause.invariant.made w at) in
      done_so c.finish.result c.stop_by_cause.result _ _ _ _
      (EndsTraced _ _ w c.loop-cause.machine (g.R.Input.unread c.loop-cause.reader) (g.D.Device.disk c.loop-cause.device) (g.W.Output.sent c.finish.new.writer) _ (g.T.Output.sent c.finish.new.trace))
      c.finish.ensures.done good kept (rw c.stop_by_cause.ensures ends);
  ended = search rules;
  ends_told = record {
    output = search rules;
    input = search rules;
    one = search rules;
    told = λ h fine q. absurd (not_input_fault c.in-Some.cause _ _ _ _ _ _ _ (c.loop-cause.invariant.read h) (search rules) c.stop_by_cause.ensures c.finish.ensures.done q);
  };
  trace_told = search rules;
  cut = λ fine failed w at.
      made_cut _ _ w _ _ _ _ _ _ _ (made_cause _ _ w _ _ _ _ _ _ _ _ _ c.in-Some.cause (search rules) c.finish.ensures.bytes c.finish.ensures.lines (c.loop-cause.invariant.made w at));
  faulted = search rules;
  untraced = λ fine failed w at.
      made_untraced _ _ w _ _ _ _ _ _ _ (made_cause _ _ w _ _ _ _ _ _ _ _ _ c.in-Some.cause (search rules) c.finish.ensures.bytes c.finish.ensures.lines (c.loop-cause.invariant.made w at));
  passed = search rules;
  moved = traced_run _ c.loop-cause.invariant.few (λ q. absurd (not_limit c.in-Some.cause _ _ _ _ _ _ c.stop_by_cause.ensures c.finish.ensures.done q))
      (traced_kept _ c.finish.ensures.bytes c.finish.ensures.lines c.loop-cause.invariant.traced);
}

pub returns-then-left-eq0-clause-runs : goal.returns-then-left-eq0-clause-runs
returns-then-left-eq0-clause-runs g c = record {
  whole = λ fine good kept w at.
      let ends = made_limit _ _ w _ _ _ _ _ _ _ _ _ (search rules) c.if-left-eq0.true c.finish-then-left-eq0.ensures.bytes c.finish-then-left-eq0.ensures.lines (c.loop-cause.invariant.made w at) in
      done_so c.finish-then-left-eq0.result stop.Limit _ _ _ _
      (EndsTraced _ _ w c.loop-cause.machine (g.R.Input.unread c.loop-cause.reader) (g.D.Device.disk c.loop-cause.device) (g.W.Output.sent c.finish-then-left-eq0.new.writer) _ (g.T.Output.sent c.finish-then-left-eq0.new.trace))
      c.finish-then-left-eq0.ensures.done good kept ends;
  ended = search rules;
  ends_told = search rules;
  trace_told = search rules;
  cut = λ fine failed w at.
      made_cut _ _ w _ _ _ _ _ _ _ (made_limit _ _ w _ _ _ _ _ _ _ _ _ (search rules) c.if-left-eq0.true c.finish-then-left-eq0.ensures.bytes c.finish-then-left-eq0.ensures.lines (c.loop-cause.invariant.made w at));
  faulted = search rules;
  untraced = λ fine failed w at.
      made_untraced _ _ w _ _ _ _ _ _ _ (made_limit _ _ w _ _ _ _ _ _ _ _ _ (search rules) c.if-left-eq0.true c.finish-then-left-eq0.ensures.bytes c.finish-then-left-eq0.ensures.lines (c.loop-cause.invariant.made w at));
  passed = search rules;
  moved = traced_run _ c.loop-cause.invariant.few (λ q. c.if-left-eq0.true)
      (traced_kept _ c.finish-then-left-eq0.ensures.bytes c.finish-then-left-eq0.ensures.lines c.loop-cause.invariant.traced);
}

pub returns-in-Err-clause-runs : goal.returns-in-Err-clause-runs
returns-in-Err-clause-runs g c = record {
  whole = search rules;
  ended = search rules;
  ends_told = search rules;
  trace_told = search rules;
  cut = search rules;
  faulted = search rules;
  untraced = λ fine failed w at.
      line_untraced _ _ w _ _ _ _ _ _ _ _ (search rules) (omega arith) (search rules) (search rules) (c.loop-cause.invariant.made w at);
  passed = search rules;
  moved = traced_cut c.loop-cause.invariant.few c.loop-cause.invariant.traced (search rules);
}

pub returns-in-Err-Reader-clause-runs : goal.returns-in-Err-Reader-clause-runs
returns-in-Err-Reader-clause-runs g c = record {
  whole = search rules;
  ended = search rules;
  ends_told = search rules;
  trace_told = search rules;
  cut = search rules;
  faulted = λ fine fails w at.
      rounds_faulted _ _ w c.loop-cause.machine _ _ _ _ _ _ _ _ _ _ _ (search rules) (c.make_rounds.ensures.faulted (c.in-Err-Reader.is ∙ ap Err c.in-Err-Reader.field-0-is)) (c.loop-cause.invariant.made w at);
  untraced = search rules;
  passed = search rules;
  moved = let told = moved_as _ true (ap sends_all (c.in-Err-Reader.is ∙ ap Err c.in-Err-Reader.field-0-is)) c.make_rounds.ensures.moved in
      traced_run stop.InputFault (omega (arith, c.loop-cause.invariant.few, c.make_rounds.ensures.left)) (λ q. cc)
      (traced_on true c.loop-cause.invariant.few c.make_rounds.ensures.left c.loop-cause.invariant.traced told (rw (← c.extent-extent.ensures) c.make_rounds.ensures.lines) (search rules));
}

pub returns-in-Err-Writer-clause-runs : goal.returns-in-Err-Writer-clause-runs
returns-in-Err-Writer-clause-runs g c = record {
  whole = search rules;
  ended = search rules;
  ends_told = search rules;
  trace_told = search rules;
  cut = λ fine fails w at.
      rounds_cut _ _ w c.loop-cause.machine _ _ _ _ _ _ _ _ _ _ _ (search rules) (omega arith) (search rules) (λ v here. rw (← c.extent-extent.ensures) (c.make_rounds.ensures.cut (c.in-Err-Writer.is ∙ ap Err c.in-Err-Writer.field-0-is) v here)) (c.loop-cause.invariant.made w at);
  faulted = search rules;
  untraced = search rules;
  passed = search rules;
  moved = let told = moved_as _ false (ap sends_all (c.in-Err-Writer.is ∙ ap Err c.in-Err-Writer.field-0-is)) c.make_rounds.ensures.moved in
      traced_run stop.OutputFault (omega (arith, c.loop-cause.invariant.few, c.make_rounds.ensures.left)) (λ q. cc)
      (traced_on false c.loop-cause.invariant.few c.make_rounds.ensures.left c.loop-cause.invariant.traced told (rw (← c.extent-extent.ensures) c.make_rounds.ensures.lines) (search rules));
}
