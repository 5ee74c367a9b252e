-- A run does the same wherever memory lies, and gives it back as one with memory of its own leaves it.
use Rattle.std.proofs.Common.{◌≡◌, ◌∙◌, ◌⊎◌, inl, inr, ℕ, zero, suc, List, [], ◌∷◌, ◌++◌, Bool, true, false, nat_le, nat_lt, is_none, ◌&&◌, if◌then◌else◌, Option, Some, None, refl, sym, ap, subst}
use Rattle.std.specs.Prelude.{IsSome}
use Rattle.std.specs.Io.KnownBytes.{Appends}
use Rattle.block_buffers.specs.Disks.{Disk}
use Rattle.block_buffers.specs.DeviceCalls.{DeviceCall}
use Rattle.machine_parts.specs.Whole.{Whole, at_place}
use Rattle.machine_parts.specs.declared.parts.Request.{Request}
use Rattle.machine_parts.specs.declared.parts.Request.TheVariants as request
use Rattle.machine.specs.declared.act.Act.{Act}
use Rattle.machine.specs.declared.extent.Extent.{Extent}
use Rattle.machine.specs.Answer.{InputEnd, InputFault, Key, Line, ReadFault, ReadOk, Reply, WriteFault, WriteOk, asked_by, is_answer}
use Rattle.machine.specs.Met.{is_met}
use Rattle.machine.specs.State.{State, state_at}
use Rattle.machine.proofs.Lending.{back_from}
use Rattle.machine.proofs.Places.{ticked_at, answer_at}
use Rattle.inner_interpreter.specs.declared.stop.Stop.{Stop}
use Rattle.inner_interpreter.specs.Moves.{Move, Turn, Tick, Answer, Enter, Accepts, AreAccepted, AreGiven, HasMoved, HasRun, IsTurnGiven, Logs, after, call_by, device_call, device_calls, is_sent, shown_by, turn_bytes, after_turn}
use Rattle.inner_interpreter.specs.Reports.{RunEnds, WriterEnd, logs_of}
use Rattle.inner_interpreter.specs.Runs.{World, rounds, stops}
use Rattle.inner_interpreter.specs.RunsTo.{BeginsAt, RunsTraced}
use Rattle.inner_interpreter.specs.Tracing.{EndsTraced, EndsCutTraced, EndsFaultedTraced, EndsUntraced, HasRunTraced, IsDue, IsPlaceless, line_next, lines_by, trace, traced_line}
use Rattle.inner_interpreter.specs.Worlds.{Ends, EndsCut, EndsFaulted, IsAt, IsBrokenOff, IsCut, IsFaulted, IsHeldUp}
use Rattle.inner_interpreter.proofs.Places.{answer_move_at, rounds_at, rounds_stay, tick_move_at, world_at}

-- moves do the same wherever memory lies
pub turned_at : (p : Option ℕ) (s : State) (t : Turn) → after_turn (state_at p s) t ≡ state_at p (after_turn s t)
turned_at p s Tick = ap (λ (x : State × Act). x.0) (ticked_at p s.parts)
turned_at p s (Answer reply) = ap (λ (x : State × Act). x.0) (answer_at p s reply)
turned_at p s (Enter word) = refl

pub after_at : (p : Option ℕ) (s : State) (ts : List Turn) → after (state_at p s) ts ≡ state_at p (after s ts)
unfolding after
after_at p s [] = refl
after_at p s (t ∷ ts) = ap (λ (v : State). after v ts) (turned_at p s t) ∙ after_at p (after_turn s t) ts

pub accepted_at : (p : Option ℕ) (s : State) (ts : List Turn) → AreAccepted s ts → AreAccepted (state_at p s) ts
unfolding AreAccepted
accepted_at p s [] h = h
accepted_at p s (t ∷ ts) h = (by_turn t h.0, subst (λ (v : State). AreAccepted v ts) (sym (turned_at p s t)) (accepted_at p (after_turn s t) ts h.1)) where
  by_turn : (u : Turn) → Accepts s u → Accepts (state_at p s) u
  by_turn Tick a = a
  by_turn (Answer reply) a = a
  by_turn (Enter word) a = a

asked_call_at : (p : Option ℕ) (w : Whole) (r : Option Request) (x : Reply) → call_by r (at_place p w) x ≡ call_by r w x
asked_call_at p w None x = refl
asked_call_at p w (Some request.Key) x = refl
asked_call_at p w (Some (request.Line n)) x = refl
asked_call_at p w (Some (request.Read u)) (Key c) = refl
asked_call_at p w (Some (request.Read u)) (Line bytes returned) = refl
asked_call_at p w (Some (request.Read u)) InputEnd = refl
asked_call_at p w (Some (request.Read u)) InputFault = refl
asked_call_at p w (Some (request.Read u)) (ReadOk page) = refl
asked_call_at p w (Some (request.Read u)) ReadFault = refl
asked_call_at p w (Some (request.Read u)) WriteOk = refl
asked_call_at p w (Some (request.Read u)) WriteFault = refl
asked_call_at p w (Some (request.Write u)) (Key c) = refl
asked_call_at p w (Some (request.Write u)) (Line bytes returned) = refl
asked_call_at p w (Some (request.Write u)) InputEnd = refl
asked_call_at p w (Some (request.Write u)) InputFault = refl
asked_call_at p w (Some (request.Write u)) (ReadOk page) = refl
asked_call_at p w (Some (request.Write u)) ReadFault = refl
asked_call_at p w (Some (request.Write u)) WriteOk = refl
asked_call_at p w (Some (request.Write u)) WriteFault = refl

call_at : (p : Option ℕ) (s : State) (t : Turn) → device_call (state_at p s) t ≡ device_call s t
call_at p s Tick = refl
call_at p s (Answer reply) = asked_call_at p s.parts (asked_by s.wait) reply
call_at p s (Enter word) = refl

pub calls_at : (p : Option ℕ) (s : State) (ts : List Turn) → device_calls (state_at p s) ts ≡ device_calls s ts
unfolding device_calls
calls_at p s [] = refl
calls_at p s (t ∷ ts) =
    ap (λ cs. cs ++ device_calls (after_turn (state_at p s) t) ts) (call_at p s t)
    ∙ ap (λ (v : State). device_call s t ++ device_calls v ts) (turned_at p s t)
    ∙ ap (λ cs. device_call s t ++ cs) (calls_at p (after_turn s t) ts)

bytes_at : (p : Option ℕ) (s : State) (t : Turn) → turn_bytes (state_at p s) t ≡ turn_bytes s t
bytes_at p s Tick = ap (λ (m : Move). m.bytes) (tick_move_at p s)
bytes_at p s (Answer reply) = ap (λ (m : Move). m.bytes) (answer_move_at p s reply)
bytes_at p s (Enter word) = refl

pub shown_at : (p : Option ℕ) (s : State) (ts : List Turn) → shown_by (state_at p s) ts ≡ shown_by s ts
unfolding shown_by
shown_at p s [] = refl
shown_at p s (t ∷ ts) =
    ap (λ bs. bs ++ shown_by (after_turn (state_at p s) t) ts) (bytes_at p s t)
    ∙ ap (λ (v : State). turn_bytes s t ++ shown_by v ts) (turned_at p s t)
    ∙ ap (λ bs. turn_bytes s t ++ bs) (shown_at p (after_turn s t) ts)

pub given_at : (p : Option ℕ) (s : State) (ts : List Turn) (given : List (Option ℕ)) → AreGiven s ts given → AreGiven (state_at p s) ts given
unfolding AreGiven
given_at p s [] given h = h
given_at p s (t ∷ ts) given (front, back, is, first, rest) =
    (front, back, is, by_turn t first, subst (λ (v : State). AreGiven v ts back) (sym (turned_at p s t)) (given_at p (after_turn s t) ts back rest)) where
      by_turn : (u : Turn) → IsTurnGiven s u front → IsTurnGiven (state_at p s) u front
      by_turn Tick a = a
      by_turn (Answer reply) a = a
      by_turn (Enter word) a = a

moved_at : (p : Option ℕ) (old new : State) (log log' : Logs) (whole : Bool) (words : List ℕ) (ticks : ℕ) → HasMoved old new log log' whole words ticks → HasMoved (state_at p old) (state_at p new) log log' whole words ticks
moved_at p old new log log' whole words ticks h = record {
  turns = h.turns;
  accepted = accepted_at p old h.turns h.accepted;
  state_is = ap (state_at p) h.state_is ∙ sym (after_at p old h.turns);
  calls_are = h.calls_are ∙ ap (λ cs. log.calls ++ cs) (sym (calls_at p old h.turns));
  front = h.front;
  back = h.back;
  shown_is = shown_at p old h.turns ∙ h.shown_is;
  sent_is = h.sent_is;
  all_sent = h.all_sent;
  given = h.given;
  reads_are = h.reads_are;
  are_given = given_at p old h.turns h.given h.are_given;
  words_are = h.words_are;
  ticks_are = h.ticks_are;
}

pub run_at : (p : Option ℕ) (old new : State) (log log' : Logs) (limit : ℕ) (why : Stop) → HasRun old new log log' limit why → HasRun (state_at p old) (state_at p new) log log' limit why
unfolding moved_at
run_at p old new log log' limit why h = record {
  ticks = h.ticks;
  few = h.few;
  all = h.all;
  moved = moved_at p old new log log' (is_sent why) [] h.ticks h.moved;
  few_answers = h.few_answers;
}

pub next_at : (extent : Extent) (line : Whole → List ℕ) → IsPlaceless line → (p : Option ℕ) (s : State) → line_next extent line (state_at p s) ≡ line_next extent line s
unfolding is_met
next_at extent line free p s =
    ap (λ bs. if is_none (asked_by s.wait) && (is_none s.parts.pending && (nat_le extent.from s.parts.ip && nat_lt s.parts.ip extent.end)) then bs else []) (free p s.parts)

lines_at : (extent : Extent) (line : Whole → List ℕ) → IsPlaceless line → (p : Option ℕ) (s : State) (ts : List Turn) → lines_by extent line (state_at p s) ts ≡ lines_by extent line s ts
unfolding lines_by
lines_at extent line free p s [] = refl
lines_at extent line free p s (Tick ∷ ts) =
    ap (λ bs. bs ++ lines_by extent line (after_turn (state_at p s) Tick) ts) (next_at extent line free p s)
    ∙ ap (λ (v : State). line_next extent line s ++ lines_by extent line v ts) (turned_at p s Tick)
    ∙ ap (λ bs. line_next extent line s ++ bs) (lines_at extent line free p (after_turn s Tick) ts)
lines_at extent line free p s (Answer reply ∷ ts) =
    ap (λ (v : State). lines_by extent line v ts) (turned_at p s (Answer reply)) ∙ lines_at extent line free p (after_turn s (Answer reply)) ts
lines_at extent line free p s (Enter word ∷ ts) = lines_at extent line free p (after_turn s (Enter word)) ts

run_traced_at : (extent : Extent) (line : Whole → List ℕ) → IsPlaceless line → (p : Option ℕ) (old new : State) (log log' : Logs) (limit : ℕ) (why : Stop) (told told' : Option (List ℕ)) → HasRunTraced extent line old new log log' limit why told told' → HasRunTraced extent line (state_at p old) (state_at p new) log log' limit why told told'
unfolding moved_at run_at
run_traced_at extent line free p old new log log' limit why told told' h = record {
  run = run_at p old new log log' limit why h.run;
  front = h.front;
  back = h.back;
  trace_is = subst (λ bs. Appends told told' (bs ++ h.front)) (sym (lines_at extent line free p old h.run.moved.turns)) h.trace_is;
  last = elim h.last [ inl none ↦ inl none | inr cut ↦ inr (cut.0, next_at extent line free p new ∙ cut.1) ];
}

-- and so do the worlds of a run
at_at : (p : Option ℕ) (w : World) (s : State) (unread : Option (List ℕ)) (disk : Option Disk) (sent : Option (List ℕ)) (left : ℕ) → IsAt w s unread disk sent left → IsAt (world_at p w) (state_at p s) unread disk sent left
at_at p w s unread disk sent left h = record {
  state_is = ap (state_at p) h.state_is;
  unread_is = h.unread_is;
  disk_is = h.disk_is;
  sent_is = h.sent_is;
  left_is = h.left_is;
}

rounded_at : (p : Option ℕ) (n : ℕ) (w : World) (s : State) (unread : Option (List ℕ)) (disk : Option Disk) (sent : Option (List ℕ)) → IsAt (rounds n w) s unread disk sent (rounds n w).left → IsAt (rounds n (world_at p w)) (state_at p s) unread disk sent (rounds n (world_at p w)).left
rounded_at p n w s unread disk sent h =
    subst (λ (v : World). IsAt v (state_at p s) unread disk sent v.left) (sym (rounds_at p n w)) (at_at p (rounds n w) s unread disk sent (rounds n w).left h)

shown_so_far : (p : Option ℕ) (n : ℕ) (w : World) → (rounds n (world_at p w)).shown ≡ (rounds n w).shown
shown_so_far p n w = ap (λ (v : World). v.shown) (rounds_at p n w)

broken_at : (p : Option ℕ) (n : ℕ) (w : World) (sent : Option (List ℕ)) → IsBrokenOff n w sent → IsBrokenOff n (world_at p w) sent
broken_at p n w sent h = record {
  before = h.before;
  count_is = h.count_is;
  part = h.part;
  rest = h.rest;
  some = h.some;
  shown_is = shown_so_far p n w ∙ h.shown_is ∙ ap (λ bs. bs ++ (h.part ++ h.rest)) (sym (shown_so_far p h.before w));
  sent_is = h.sent_is ∙ ap (λ bs. Some (bs ++ h.part)) (sym (shown_so_far p h.before w));
}

held_at : (p : Option ℕ) (n : ℕ) (w : World) (sent : Option (List ℕ)) → IsHeldUp n w sent → IsHeldUp n (world_at p w) sent
held_at p n w sent h = record {
  sent_is = h.sent_is ∙ ap (λ bs. Some bs) (sym (shown_so_far p n w));
  due = subst (λ (v : World). (is_answer (asked_by v.state.wait) InputFault ≡ true) ⊎ IsSome (stops v)) (sym (rounds_at p n w)) h.due;
}

cut_at : (p : Option ℕ) (n : ℕ) (w : World) (s : State) (unread : Option (List ℕ)) (disk : Option Disk) (sent : Option (List ℕ)) → IsCut n w s unread disk sent → IsCut n (world_at p w) (state_at p s) unread disk sent
cut_at p n w s unread disk sent h = record {
  state_is = ap (state_at p) h.state_is ∙ sym (ap (λ (v : World). v.state) (rounds_at p n w));
  unread_is = h.unread_is ∙ sym (ap (λ (v : World). Some v.typed) (rounds_at p n w));
  disk_is = h.disk_is ∙ sym (ap (λ (v : World). Some v.disk) (rounds_at p n w));
  sent_is = elim h.sent_is [ inl broken ↦ inl (broken_at p n w sent broken) | inr held ↦ inr (held_at p n w sent held) ];
}

faulted_at : (p : Option ℕ) (w : World) (s : State) (unread : Option (List ℕ)) (disk : Option Disk) (sent : Option (List ℕ)) → IsFaulted w s unread disk sent → IsFaulted (world_at p w) (state_at p s) unread disk sent
faulted_at p w s unread disk sent h = record {
  goes = h.goes;
  asked = h.asked;
  unread_is = h.unread_is;
  state_is = ap (state_at p) h.state_is ∙ sym (ap (λ (x : State × Act). x.0) (answer_at p w.state InputFault));
  disk_is = h.disk_is;
  sent_is = h.sent_is;
}

traced_line_at : (extent : Extent) (line : Whole → List ℕ) → IsPlaceless line → (p : Option ℕ) (w : World) → traced_line extent line (world_at p w) ≡ traced_line extent line w
unfolding traced_line
traced_line_at extent line free p w = ap (λ bs. if is_none (stops w) then bs else []) (next_at extent line free p w.state)

trace_at : (extent : Extent) (line : Whole → List ℕ) → IsPlaceless line → (p : Option ℕ) (n : ℕ) (w : World) → trace extent line n (world_at p w) ≡ trace extent line n w
unfolding trace
trace_at extent line free p zero w = refl
trace_at extent line free p (suc n) w =
    ap (λ ls. ls ++ traced_line extent line (rounds n (world_at p w))) (trace_at extent line free p n w)
    ∙ ap (λ (v : World). trace extent line n w ++ traced_line extent line v) (rounds_at p n w)
    ∙ ap (λ ls. trace extent line n w ++ ls) (traced_line_at extent line free p (rounds n w))

-- the trace of a world that ends so is sent as well
sent_at : (extent : Extent) (line : Whole → List ℕ) → IsPlaceless line → (p : Option ℕ) (n : ℕ) (w : World) (front : List ℕ) (told told' : Option (List ℕ)) → Appends told told' (trace extent line n w ++ front) → Appends told told' (trace extent line n (world_at p w) ++ front)
sent_at extent line free p n w front told told' h = subst (λ bs. Appends told told' (bs ++ front)) (sym (trace_at extent line free p n w)) h

told_at : (extent : Extent) (line : Whole → List ℕ) → IsPlaceless line → (p : Option ℕ) (n : ℕ) (w : World) (told told' : Option (List ℕ)) → Appends told told' (trace extent line n w) → Appends told told' (trace extent line n (world_at p w))
told_at extent line free p n w told told' h = subst (λ bs. Appends told told' bs) (sym (trace_at extent line free p n w)) h

untraced_at : (extent : Extent) (line : Whole → List ℕ) → IsPlaceless line → (p : Option ℕ) (w : World) (s : State) (unread : Option (List ℕ)) (disk : Option Disk) (sent told told' : Option (List ℕ)) → EndsUntraced extent line w s unread disk sent told told' → EndsUntraced extent line (world_at p w) (state_at p s) unread disk sent told told'
unfolding is_met
untraced_at extent line free p w s unread disk sent told told' h = record {
  count = h.count;
  at = rounded_at p h.count w s unread disk sent h.at;
  front = h.front;
  back = h.back;
  line_is = ap (traced_line extent line) (rounds_at p h.count w) ∙ traced_line_at extent line free p (rounds h.count w) ∙ h.line_is;
  trace_is = sent_at extent line free p h.count w h.front told told' h.trace_is;
  due = elim h.due [
    | inl stopped ↦ inl (subst (λ (v : World). IsSome (stops v)) (sym (rounds_at p h.count w)) stopped)
    | inr due ↦ inr due
  ];
}

-- a run from a world with memory at another place begins in one that is the same beside that
begun_at : (p : Option ℕ) (s : State) (w : World) (unread : Option (List ℕ)) (disk : Option Disk) (sent : Option (List ℕ)) (limit : ℕ) → IsAt w (state_at p s) unread disk sent limit → IsAt (record w { state = s }) s unread disk sent limit
begun_at p s w unread disk sent limit h = record {
  state_is = refl;
  unread_is = h.unread_is;
  disk_is = h.disk_is;
  sent_is = h.sent_is;
  left_is = h.left_is;
}

of_world : (P : World → Type 0) (p : Option ℕ) (s : State) (w : World) → state_at p s ≡ w.state → P (world_at p (record w { state = s })) → P w
of_world P p s w is h = subst P (ap (λ (t : State). record w { state = t }) is) h

-- a run does the same wherever memory lies
pub runs_at : (extent : Extent) (line : Whole → List ℕ) → IsPlaceless line → (p : Option ℕ) (old new : State) (ends ends' : RunEnds) (told told' : WriterEnd) (limit : ℕ) (why : Stop) → RunsTraced extent line old new ends ends' told told' limit why → RunsTraced extent line (state_at p old) (state_at p new) ends ends' told told' limit why
runs_at extent line free p old new ends ends' told told' limit why h = record {
  whole = λ fine good clean w at.
      of_world (λ w. EndsTraced extent line w (state_at p new) ends'.reader.unread ends'.device.disk ends'.writer.sent told.sent told'.sent why) p old w at.state_is
      (let e = h.whole fine good clean (record w { state = old }) (begun_at p old w _ _ _ limit at) in record {
        ends = record {
          count = e.ends.count;
          at = rounded_at p e.ends.count (record w { state = old }) new _ _ _ e.ends.at;
          stops_so = ap stops (rounds_at p e.ends.count (record w { state = old })) ∙ e.ends.stops_so;
        };
        trace_is = told_at extent line free p e.ends.count (record w { state = old }) _ _ e.trace_is;
      });
  ended = h.ended;
  ends_told = record { output = h.ends_told.output; input = h.ends_told.input; one = h.ends_told.one; told = h.ends_told.told };
  trace_told = h.trace_told;
  cut = λ fine failed w at.
      of_world (λ w. EndsCutTraced extent line w (state_at p new) ends'.reader.unread ends'.device.disk ends'.writer.sent told.sent told'.sent) p old w at.state_is
      (let e = h.cut fine failed (record w { state = old }) (begun_at p old w _ _ _ limit at) in record {
        cut = record { count = e.cut.count; cut = cut_at p e.cut.count (record w { state = old }) new _ _ _ e.cut.cut };
        trace_is = told_at extent line free p e.cut.count (record w { state = old }) _ _ e.trace_is;
      });
  faulted = λ fine failed w at.
      of_world (λ w. EndsFaultedTraced extent line w (state_at p new) ends'.reader.unread ends'.device.disk ends'.writer.sent told.sent told'.sent) p old w at.state_is
      (let e = h.faulted fine failed (record w { state = old }) (begun_at p old w _ _ _ limit at) in record {
        faulted = record {
          count = e.faulted.count;
          faulted = subst (λ (v : World). IsFaulted v (state_at p new) ends'.reader.unread ends'.device.disk ends'.writer.sent) (sym (rounds_at p e.faulted.count (record w { state = old })))
              (faulted_at p (rounds e.faulted.count (record w { state = old })) new _ _ _ e.faulted.faulted);
        };
        trace_is = told_at extent line free p e.faulted.count (record w { state = old }) _ _ e.trace_is;
      });
  untraced = λ fine failed w at.
      of_world (λ w. EndsUntraced extent line w (state_at p new) ends'.reader.unread ends'.device.disk ends'.writer.sent told.sent told'.sent) p old w at.state_is
      (untraced_at extent line free p (record w { state = old }) new _ _ _ _ _ (h.untraced fine failed (record w { state = old }) (begun_at p old w _ _ _ limit at)));
  passed = h.passed;
  moved = run_traced_at extent line free p old new (logs_of ends) (logs_of ends') limit why told.sent told'.sent h.moved;
}

-- memory stays where it is
pub runs_stay : (extent : Extent) (line : Whole → List ℕ) (old new : State) (ends ends' : RunEnds) (told told' : WriterEnd) (limit : ℕ) (why : Stop) → RunsTraced extent line old new ends ends' told told' limit why → new.parts.place ≡ old.parts.place
runs_stay extent line old new ends ends' told told' limit why h =
    let turns = h.moved.run.moved.turns in
    ap (λ (s : State). s.parts.place) h.moved.run.moved.state_is ∙ ap (λ (s : State). s.parts.place) (after_at old.parts.place old turns)

-- so a run of a machine over memory that is lent is one of the machine that owns it
pub runs_lent : (extent : Extent) (line : Whole → List ℕ) → IsPlaceless line → (name : ℕ) (m m' s s' : State) (ends ends' : RunEnds) (told told' : WriterEnd) (limit : ℕ) (why : Stop) → s.parts.place ≡ None → m ≡ state_at (Some name) s → s' ≡ state_at None m' → RunsTraced extent line m m' ends ends' told told' limit why → RunsTraced extent line s s' ends ends' told told' limit why
runs_lent extent line free name m m' s s' ends ends' told told' limit why none from to h =
    subst (λ (t : State). RunsTraced extent line t s' ends ends' told told' limit why) (back_from name m s none from)
    (subst (λ (t : State). RunsTraced extent line (state_at None m) t ends ends' told told' limit why) (sym to) (runs_at extent line free None m m' ends ends' told told' limit why h))
