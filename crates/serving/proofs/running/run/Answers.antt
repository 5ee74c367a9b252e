use Rattle.std.proofs.Common.{rules, arith, refl, sym, ap, ◌∙◌, []}
use Rattle.inner_interpreter.proofs.Running.{on_ok_then}
use Rattle.inner_interpreter.proofs.Ending.{one_waits}
use Rattle.inner_interpreter.specs.Worlds.{waiting}
use Rattle.serving.proofs.Roomy.{few_none, few_sent, few_both, lean_on, most_on, end_length}
use Rattle.serving.proofs.Stretch.{on_err_then, under_way, run_ended, run_cut, asking, ticking, asked_one, no_refusal, answered_on, ticked_on, ticks_cut}
use Rattle.serving.proofs.running.run.Goals as goal

pub moves-init : goal.moves-init
moves-init g c = record { way = under_way _ _ _ _ _; few = omega arith; small = omega arith; lean = λ _. few_none _ _; most = few_none _ _; mark = refl }

pub returns-in-Ends-clause-ok : goal.returns-in-Ends-clause-ok
returns-in-Ends-clause-ok g c = on_ok_then c.end.result _ _ (λ sent. run_ended _ _ _ _ _ _ _ _ _ _ _ _ (sym c.next_of.ensures ∙ c.in-Ends.is) c.moves.invariant.way sent) c.end.ensures.ok

pub returns-in-Ends-clause-err : goal.returns-in-Ends-clause-err
returns-in-Ends-clause-err g c = on_err_then c.end.result _ _ (λ part. run_cut _ _ _ _ _ _ _ _ _ _ _ _ c.moves.invariant.way part) c.end.ensures.err

pub returns-in-Ends-clause-room : goal.returns-in-Ends-clause-room
returns-in-Ends-clause-room g c =
    on_ok_then c.end.result _ _ (λ sent. few_both 73820 10 73830 _ _ _ c.moves.invariant.most (few_sent 10 _ _ _ sent (end_length _ _)) (omega arith)) c.end.ensures.ok

pub answer_asked-event-requires : goal.answer_asked-event-requires
answer_asked-event-requires g c = asking _ _ _ _ _ _ _ (sym c.next_of.ensures ∙ c.in-Answers.is)

pub moves-smaller-in-Answers : goal.moves-smaller-in-Answers
moves-smaller-in-Answers g c =
    let one = asked_one _ _ (asking _ _ _ _ _ _ _ (sym c.next_of.ensures ∙ c.in-Answers.is)) in
    let none = ap waiting c.answer_asked-event.ensures.settled in
    omega (arith, one, none)

pub moves-preserved-in-Answers : goal.moves-preserved-in-Answers
moves-preserved-in-Answers g c = record {
  way = answered_on _ _ _ _ _ _ _ _ _ _ _ _ _ _ _ (sym c.next_of.ensures ∙ c.in-Answers.is) c.moves.invariant.way (c.answer_asked-event.ensures.acted []);
  few = c.moves.invariant.few;
  small = c.moves.invariant.small;
  lean = c.moves.invariant.lean;
  most = c.moves.invariant.most;
  mark = c.moves.invariant.mark;
}

pub unreachable-requires : goal.unreachable-requires
unreachable-requires g c = absurd (no_refusal c.moves.machine (ticking _ _ _ _ c.moves.machine _ (sym c.next_of.ensures ∙ c.in-Ticks.is)).runs c.in_default.ensures.stays.0)

pub moves-smaller : goal.moves-smaller
moves-smaller g c =
    let i = ticking _ _ _ _ _ _ (sym c.next_of.ensures ∙ c.in-Ticks.is) in
    let few = i.few in
    omega (arith, few, c.from.ensures, c.in-Ok.ensures.some, c.in-Ok.ensures.most, one_waits)

pub moves-preserved : goal.moves-preserved
moves-preserved g c =
    let i = ticking _ _ _ _ _ _ (sym c.next_of.ensures ∙ c.in-Ticks.is) in
    let room = i.room in
    record {
      way = ticked_on _ _ _ _ _ _ _ _ c.from.result _ _ _ _ _ _ _ _ (sym c.next_of.ensures ∙ c.in-Ticks.is) c.from.ensures c.in-Ok.ensures.went c.shown_len-shown.ensures.len c.moves.invariant.way (search rules);
      few = omega (arith, c.from.ensures, c.in-Ok.ensures.most, i.few);
      small = omega (arith, room, c.shown_len-shown.ensures.few);
      lean = λ few. lean_on c.moves.shown c.shown_len-shown.result _ _ _ _ _ c.shown_len-shown.ensures.len (c.moves.invariant.lean room) (search rules) few;
      most = most_on c.moves.shown c.shown_len-shown.result _ _ _ _ _ c.shown_len-shown.ensures.len (c.moves.invariant.lean room) (search rules) room c.shown_len-shown.ensures.few;
      mark = search rules;
    }

pub returns-in-Err-clause-err : goal.returns-in-Err-clause-err
returns-in-Err-clause-err g c =
    ticks_cut _ _ _ _ _ _ _ _ c.from.result _ _ _ _ _ _ _ (sym c.next_of.ensures ∙ c.in-Ticks.is) c.from.ensures c.in-Ok.ensures.went c.moves.invariant.way (search rules)
