-- The ends of a run.
use Rattle.std.proofs.Common.{◌≡◌, ℕ, ◌+◌, ◌<◌, Bool, true, false, List, [], ◌++◌, Option, None, Some, is_none, if◌then◌else◌, refl, sym, ap, subst, ◌∙◌, inr, arith, append-nil, append_assoc}
use Rattle.std.specs.Prelude.{IsSome}
use Rattle.std.specs.Io.KnownBytes.{Appends, Keeps}
use Rattle.block_buffers.specs.Disks.{Disk}
use Rattle.machine_parts.specs.Whole.{Whole}
use Rattle.machine.specs.declared.act.Cause.{Cause}
use Rattle.inner_interpreter.specs.declared.stop.Stop.{Stop}
use Rattle.inner_interpreter.specs.declared.stop.Stop.TheVariants as stop
use Rattle.machine.specs.declared.extent.Extent.{Extent}
use Rattle.machine.specs.State.{State}
use Rattle.machine.specs.Answer.{InputFault, asked_by, is_answer}
use Rattle.inner_interpreter.specs.Runs.{World, rounds, stops, stop_by, stop_of}
use Rattle.inner_interpreter.specs.Sent.{AppendsPart}
use Rattle.inner_interpreter.specs.Served.{is_input_fault}
use Rattle.inner_interpreter.specs.Tracing.{AddsLine, IsDue, Reached, ReachedCut, MadeTraced, EndsTraced, EndsCutTraced, EndsFaultedTraced, EndsUntraced, Finishes, line_next, traced_line, trace}
use Rattle.inner_interpreter.specs.Worlds.{IsAt, IsFaulted}
use Rattle.inner_interpreter.proofs.Running.{cut_behind, kept_at}
use Rattle.inner_interpreter.proofs.Sending.{appends_both}
use Rattle.inner_interpreter.proofs.Stretched.{rounds_add, runs_on, trace_add}

appends_none : (a : Option (List ℕ)) → Appends a a []
appends_none a = grind (arith, append-nil)

appends_kept : (a b c : Option (List ℕ)) (xs : List ℕ) → Appends a b xs → Keeps b c → Appends a c xs
appends_kept a b c xs h k = grind arith

-- if the run goes on, the line is that of the state
line_goes : (e : Extent) (line : Whole → List ℕ) (w : World) (s : State) → s ≡ w.state → stops w ≡ None → traced_line e line w ≡ line_next e line s
unfolding traced_line
line_goes e line w s same goes = ap (λ o. if is_none o then line_next e line w.state else []) goes ∙ ap (line_next e line) (sym same)

runs_at : (w : World) (s : State) (unread : Option (List ℕ)) (disk : Option Disk) (sent : Option (List ℕ)) (left : ℕ) → s.halt ≡ None → 0 < left → IsAt w s unread disk sent left → stops w ≡ None
runs_at w s unread disk sent left halt some at = runs_on w (ap (λ (v : State). v.halt) (sym at.state_is) ∙ halt) (omega (arith, at.left_is, some))

-- while a request waits, no line is due
asked_line : (e : Extent) (line : Whole → List ℕ) (s : State) → is_answer (asked_by s.wait) InputFault ≡ true → line_next e line s ≡ []
asked_line e line s h = grind arith

pub none_made : (e : Extent) (line : Whole → List ℕ) (w : World) (s : State) (unread : Option (List ℕ)) (disk : Option Disk) (sent : Option (List ℕ)) (left : ℕ) (t : Option (List ℕ))
    → IsAt w s unread disk sent left → MadeTraced e line w s unread disk sent left t t
unfolding rounds trace
none_made e line w s unread disk sent left t at = (0, at, appends_none t)

-- the trace of some rounds, and then of these
more_trace : (e : Extent) (line : Whole → List ℕ) (w : World) (n m : ℕ) (ls : List ℕ) (t0 t1 t2 : Option (List ℕ))
    → AddsLine e m (rounds n w) → traced_line e line (rounds n w) ≡ ls → Appends t0 t1 (trace e line n w) → Appends t1 t2 ls → Appends t0 t2 (trace e line (m + n) w)
more_trace e line w n m ls t0 t1 t2 adds same h k = grind (arith, trace_add, appends_both)

pub more_made : (e : Extent) (line : Whole → List ℕ) (w : World) (s s' : State) (unread unread' : Option (List ℕ)) (disk disk' : Option Disk) (sent sent' : Option (List ℕ)) (left left' : ℕ) (t0 t1 t2 : Option (List ℕ))
    → s.halt ≡ None → 0 < left → Appends t1 t2 (line_next e line s)
    → ((v : World) → IsAt v s unread disk sent left → Reached e v s' unread' disk' sent' left')
    → MadeTraced e line w s unread disk sent left t0 t1 → MadeTraced e line w s' unread' disk' sent' left' t0 t2
more_made e line w s s' unread unread' disk disk' sent sent' left left' t0 t1 t2 halt some told step made =
    let v = rounds made.0 w in
    let more = step v made.1 in
    let goes = runs_at v s unread disk sent left halt some made.1 in (
      more.0 + made.0,
      rw (rounds_add more.0 made.0 w) (more.2),
      more_trace e line w made.0 more.0 (line_next e line s) t0 t1 t2 more.1 (line_goes e line v s made.1.state_is goes) made.2 told,
    )

pub made_cause : (e : Extent) (line : Whole → List ℕ) (w : World) (s : State) (unread : Option (List ℕ)) (disk : Option Disk) (sent sent' : Option (List ℕ)) (left : ℕ) (t0 t1 t2 : Option (List ℕ)) (c : Cause)
    → s.halt ≡ Some c → Keeps sent sent' → Keeps t1 t2 → MadeTraced e line w s unread disk sent left t0 t1 → EndsTraced e line w s unread disk sent' t0 t2 (stop_of c)
made_cause e line w s unread disk sent sent' left t0 t1 t2 c h k l made =
    let v = rounds made.0 w in
    let at = kept_at v s unread disk sent sent' left k made.1 in
    let cause : v.state.halt ≡ Some c = ap (λ (x : State). x.halt) (sym at.state_is) ∙ h in
    record {
      ends = record {
        count = made.0;
        at = record { state_is = at.state_is; unread_is = at.unread_is; disk_is = at.disk_is; sent_is = at.sent_is; left_is = refl };
        stops_so = ap (λ o. stop_by o v.left) cause;
      };
      trace_is = appends_kept t0 t1 t2 (trace e line made.0 w) made.2 l;
    }

pub made_limit : (e : Extent) (line : Whole → List ℕ) (w : World) (s : State) (unread : Option (List ℕ)) (disk : Option Disk) (sent sent' : Option (List ℕ)) (left : ℕ) (t0 t1 t2 : Option (List ℕ))
    → s.halt ≡ None → left ≡ 0 → Keeps sent sent' → Keeps t1 t2 → MadeTraced e line w s unread disk sent left t0 t1 → EndsTraced e line w s unread disk sent' t0 t2 stop.Limit
made_limit e line w s unread disk sent sent' left t0 t1 t2 h none k l made =
    let v = rounds made.0 w in
    let at = kept_at v s unread disk sent sent' left k made.1 in
    let goes : v.state.halt ≡ None = ap (λ (x : State). x.halt) (sym at.state_is) ∙ h in
    let nothing : v.left ≡ 0 = sym at.left_is ∙ none in
    record {
      ends = record {
        count = made.0;
        at = record { state_is = at.state_is; unread_is = at.unread_is; disk_is = at.disk_is; sent_is = at.sent_is; left_is = refl };
        stops_so = ap (λ o. stop_by o v.left) goes ∙ ap (stop_by None) nothing;
      };
      trace_is = appends_kept t0 t1 t2 (trace e line made.0 w) made.2 l;
    }

-- the writer failed at last
pub made_cut : (e : Extent) (line : Whole → List ℕ) (w : World) (s : State) (unread : Option (List ℕ)) (disk : Option Disk) (sent : Option (List ℕ)) (t0 t2 : Option (List ℕ)) (r : Stop)
    → EndsTraced e line w s unread disk sent t0 t2 r → EndsCutTraced e line w s unread disk sent t0 t2
made_cut e line w s unread disk sent t0 t2 r ended = record {
  cut = record {
    count = ended.ends.count;
    cut = record {
      state_is = ended.ends.at.state_is;
      unread_is = ended.ends.at.unread_is;
      disk_is = ended.ends.at.disk_is;
      sent_is = inr (record { sent_is = ended.ends.at.sent_is; due = inr (subst IsSome (sym ended.ends.stops_so) refl) });
    };
  };
  trace_is = ended.trace_is;
}

-- the trace's writer failed at last
pub made_untraced : (e : Extent) (line : Whole → List ℕ) (w : World) (s : State) (unread : Option (List ℕ)) (disk : Option Disk) (sent : Option (List ℕ)) (t0 t2 : Option (List ℕ)) (r : Stop)
    → EndsTraced e line w s unread disk sent t0 t2 r → EndsUntraced e line w s unread disk sent t0 t2
made_untraced e line w s unread disk sent t0 t2 r ended = grind (arith, append-nil)

-- a front of bytes, after others
record Behind (a c : Option (List ℕ)) (xs bs : List ℕ) : Type 0 where
  front : List ℕ
  back : List ℕ
  is : bs ≡ front ++ back
  all : Appends a c (xs ++ front)

part_behind : (a b c : Option (List ℕ)) (xs bs : List ℕ) → Appends a b xs → AppendsPart b c bs → Behind a c xs bs
part_behind a b c xs bs h k = grind (arith, append_assoc)

-- the trace's writer failed in a line
pub line_untraced : (e : Extent) (line : Whole → List ℕ) (w : World) (s : State) (unread : Option (List ℕ)) (disk : Option Disk) (sent : Option (List ℕ)) (left : ℕ) (t0 t1 t2 : Option (List ℕ))
    → s.halt ≡ None → 0 < left → AppendsPart t1 t2 (line_next e line s) → IsDue e s → MadeTraced e line w s unread disk sent left t0 t1 → EndsUntraced e line w s unread disk sent t0 t2
line_untraced e line w s unread disk sent left t0 t1 t2 halt some told due made = grind (arith, line_goes, runs_at, part_behind)

pub rounds_cut : (e : Extent) (line : Whole → List ℕ) (w : World) (s s' : State) (unread unread' : Option (List ℕ)) (disk disk' : Option Disk) (sent sent' : Option (List ℕ)) (left : ℕ) (t0 t1 t2 : Option (List ℕ))
    → s.halt ≡ None → 0 < left → Appends t1 t2 (line_next e line s)
    → ((v : World) → IsAt v s unread disk sent left → ReachedCut e v s' unread' disk' sent')
    → MadeTraced e line w s unread disk sent left t0 t1 → EndsCutTraced e line w s' unread' disk' sent' t0 t2
rounds_cut e line w s s' unread unread' disk disk' sent sent' left t0 t1 t2 halt some told step made =
    let v = rounds made.0 w in
    let more = step v made.1 in
    let goes = runs_at v s unread disk sent left halt some made.1 in
    record {
      cut = record { count = more.0 + made.0; cut = cut_behind more.0 made.0 w _ _ _ _ more.2 };
      trace_is = more_trace e line w made.0 more.0 (line_next e line s) t0 t1 t2 more.1 (line_goes e line v s made.1.state_is goes) made.2 told;
    }

pub rounds_faulted : (e : Extent) (line : Whole → List ℕ) (w : World) (s s' : State) (unread unread' : Option (List ℕ)) (disk disk' : Option Disk) (sent sent' : Option (List ℕ)) (left : ℕ) (t0 t1 t2 : Option (List ℕ))
    → Appends t1 t2 (line_next e line s) → ((v : World) → IsAt v s unread disk sent left → IsFaulted v s' unread' disk' sent')
    → MadeTraced e line w s unread disk sent left t0 t1 → EndsFaultedTraced e line w s' unread' disk' sent' t0 t2
rounds_faulted e line w s s' unread unread' disk disk' sent sent' left t0 t1 t2 told step made =
    let f = step (rounds made.0 w) made.1 in
    let none : line_next e line s ≡ [] = asked_line e line s (ap (λ (v : State). is_answer (asked_by v.wait) InputFault) made.1.state_is ∙ f.asked) in
    let all : trace e line made.0 w ++ [] ≡ trace e line made.0 w = append-nil (trace e line made.0 w) in
    record {
      faulted = record { count = made.0; faulted = f };
      trace_is = subst (Appends t0 t2) all (appends_both t0 t1 t2 (trace e line made.0 w) [] made.2 (subst (Appends t1 t2) none told));
    }

-- a run that ends well ends with the stop
pub done_so : (r s : Stop) (w w' t t' : Bool) (P : Stop → Type 0) → Finishes r s w w' t t' → w' ≡ false → t' ≡ false → P s → P r
done_so r s w w' t t' P h f g p = grind arith

-- a halted machine doesn't stop for want of ticks
pub not_limit : (c : Cause) (s r : Stop) (w w' t t' : Bool) → s ≡ stop_of c → Finishes r s w w' t t' → r ≡ stop.Limit → ⊥
not_limit c s r w w' t t' e h q = grind arith

-- a machine that halted for another cause doesn't stop for a failed reader
pub not_input_fault : (c : Cause) (h : Option Cause) (s r : Stop) (w w' t t' : Bool) → is_input_fault h ≡ false → h ≡ Some c → s ≡ stop_of c → Finishes r s w w' t t' → r ≡ stop.InputFault → ⊥
unfolding is_input_fault
not_input_fault c h s r w w' t t' n k e m q = grind arith
