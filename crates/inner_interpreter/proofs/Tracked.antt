-- The trace of a run, by the moves that it made.
use Rattle.std.proofs.Common.{◌≡◌, ℕ, zero, suc, ◌+◌, ◌-◌, ◌≤◌, ◌<◌, List, [], ◌∷◌, ◌++◌, Option, Some, Bool, true, false, refl, sym, ap, subst, ◌∙◌, inl, inr, arith, append-nil, append_assoc, if◌then◌else◌}
use Rattle.std.proofs.lemmas.List.Sums.{sum_by-cons}
use Rattle.std.specs.Io.KnownBytes.{Appends, Keeps}
use Rattle.machine_parts.specs.Whole.{Whole}
use Rattle.machine_parts.specs.declared.parts.Request.{Request}
use Rattle.machine.specs.declared.act.Act.{Act}
use Rattle.machine.specs.declared.extent.Extent.{Extent}
use Rattle.machine.specs.State.{State}
use Rattle.machine.specs.Tick.{ran, ticked, running}
use Rattle.machine.specs.Met.{is_met, AreUnmet}
use Rattle.machine.specs.Answer.{asked_by}
use Rattle.machine.proofs.Ran.{ran_quiet, ran_loud}
use Rattle.block_buffers.specs.DeviceCalls.{DeviceCall}
use Rattle.inner_interpreter.specs.declared.stop.Stop.{Stop}
use Rattle.inner_interpreter.specs.declared.stop.Stop.TheVariants as stop
use Rattle.inner_interpreter.specs.Moves.{Turn, Tick, Answer, Enter, after, after_turn, AreAccepted, Logs, logs, is_sent, is_tick, words_in, ticks_in, HasMoved, HasRun}
use Rattle.inner_interpreter.specs.Sent.{AppendsPart}
use Rattle.inner_interpreter.specs.Tracing.{AddsFirst, HasRunTraced, line_next, lines_by}
use Rattle.inner_interpreter.proofs.Ending.{one_waits}
use Rattle.inner_interpreter.proofs.Moving.{appends_none, asked_waits, few_answers, kept_appends, moved_add, moved_kept, moved_none, moved_so}
use Rattle.inner_interpreter.proofs.Quiet.{ticked_runs}
use Rattle.inner_interpreter.proofs.Sending.{appends_both}

lines-append : (e : Extent) (line : Whole → List ℕ) (ts us : List Turn) (s : State) → lines_by e line s (ts ++ us) ≡ lines_by e line s ts ++ lines_by e line (after s ts) us
unfolding after lines_by
lines-append e line [] us s = refl
lines-append e line (Tick ∷ ts) us s =
    ap (λ ls. line_next e line s ++ ls) (lines-append e line ts us (after_turn s Tick))
    ∙ sym (append_assoc (line_next e line s) (lines_by e line (after_turn s Tick) ts) (lines_by e line (after (after_turn s Tick) ts) us))
lines-append e line (Answer reply ∷ ts) us s = lines-append e line ts us (after_turn s (Answer reply))
lines-append e line (Enter word ∷ ts) us s = lines-append e line ts us (after_turn s (Enter word))

one_tick : (t : Turn) (ts : List Turn) → ticks_in (t ∷ ts) ≡ (if is_tick t then 1 else 0) + ticks_in ts
one_tick t ts = sum_by-cons (λ u. if is_tick u then 1 else 0) t ts

-- moves without a tick have no line
no_lines : (e : Extent) (line : Whole → List ℕ) (ts : List Turn) (s : State) → ticks_in ts ≡ 0 → lines_by e line s ts ≡ []
unfolding lines_by
no_lines e line [] s h = refl
no_lines e line (Tick ∷ ts) s h = absurd (omega (arith, h, one_tick Tick ts))
no_lines e line (Answer reply ∷ ts) s h = no_lines e line ts (after_turn s (Answer reply)) (omega (arith, h, one_tick (Answer reply) ts))
no_lines e line (Enter word ∷ ts) s h = no_lines e line ts (after_turn s (Enter word)) (omega (arith, h, one_tick (Enter word) ts))

unmet_line : (e : Extent) (line : Whole → List ℕ) (s : State) → is_met e s.parts ≡ false → line_next e line s ≡ []
unmet_line e line s h = grind arith

waiting_line : (e : Extent) (line : Whole → List ℕ) (s : State) (r : Request) → asked_by s.wait ≡ Some r → line_next e line s ≡ []
waiting_line e line s r h = rw h refl

-- the moves of a running machine begin with a tick
record Begins (p : Whole) (ts : List Turn) : Type 0 where
  rest : List Turn
  is : ts ≡ Tick ∷ rest
  accepted : AreAccepted (ticked p).0 rest
  words : words_in rest ≡ []
  ticks : ticks_in ts ≡ suc (ticks_in rest)

begins : (p : Whole) (ts : List Turn) → AreAccepted (running p) ts → words_in ts ≡ [] → 0 < ticks_in ts → Begins p ts
unfolding AreAccepted
begins p [] h k l = absurd (omega (arith, l))
begins p (Tick ∷ ts) h k l = record { rest = ts; is = refl; accepted = h.1; words = k; ticks = omega (arith, one_tick Tick ts) }
begins p (Answer reply ∷ ts) h k l = absurd (omega (arith, asked_waits (running p) reply h.0.2))
begins p (Enter word ∷ ts) h k l = cc

-- no line of one tick and those after it
unmet_tick : (e : Extent) (line : Whole → List ℕ) (n k : ℕ) (p : Whole) (ts : List Turn) → (ran k (suc n) p).0 ≡ k + suc n → is_met e p ≡ false → ticks_in ts ≡ suc n → (b : Begins p ts)
    → ((ticked p).0 ≡ running (ticked p).0.parts → (ran (k + 1) n (ticked p).0.parts).0 ≡ k + 1 + n → lines_by e line (running (ticked p).0.parts) b.rest ≡ [])
    → lines_by e line (running p) ts ≡ []
unfolding lines_by
unmet_tick e line n k p ts all unmet t b more = grind (arith, unmet_line, ticked_runs, ran_quiet, ran_loud, no_lines)

-- no line if no token of the extent comes next
unmet_lines : (e : Extent) (line : Whole → List ℕ) (n k : ℕ) (p : Whole) (ts : List Turn) → (ran k n p).0 ≡ k + n → AreUnmet e n p → AreAccepted (running p) ts → words_in ts ≡ [] → ticks_in ts ≡ n → lines_by e line (running p) ts ≡ []
unfolding AreUnmet
unmet_lines e line zero k p ts all unmet h w t = no_lines e line ts (running p) t
unmet_lines e line (suc n) k p ts all unmet h w t =
    let b = begins p ts h w (omega (arith, t)) in
    unmet_tick e line n k p ts all unmet.0 t b
    (λ runs count. unmet_lines e line n (k + 1) (ticked p).0.parts b.rest count unmet.1 (subst (λ s. AreAccepted s b.rest) runs b.accepted) b.words (omega (arith, b.ticks, t)))

-- of a stretch of ticks only the first may have a line
first_line : (e : Extent) (m : ℕ) (p : Whole) → 0 < m → (ran 0 m p).0 ≡ m → AreUnmet e (m - 1) (ticked p).0.parts → AddsFirst e (running p) m
unfolding lines_by
first_line e m p some all unmet = grind (arith, begins, ticked_runs, ran_quiet, unmet_lines, ran_loud, no_lines, append-nil)

-- the ticks that a call makes out of those that are left
pub went_first : (e : Extent) (left count : ℕ) (s t : State) (act : Act) → s ≡ running s.parts → (count, t, act) ≡ ran 0 count s.parts → 0 < count → count ≤ left → AreUnmet e (count - 1) (ticked s.parts).0.parts → AddsFirst e s (left - (left - count))
went_first e left count s t act runs is some most unmet = grind (arith, first_line)

-- moves while a request waits, none of them a tick
pub still_first : (e : Extent) (left : ℕ) (s : State) (r : Request) → asked_by s.wait ≡ Some r → AddsFirst e s (left - left)
still_first e left s r h = grind (arith, no_lines, waiting_line)

-- moves with the trace that was sent of them
pub record HasTraced (e : Extent) (line : Whole → List ℕ) (old new : State) (log log' : Logs) (whole : Bool) (ticks : ℕ) (told told' : Option (List ℕ)) : Type 0 where
  pub count : ℕ
  pub same : count ≡ ticks
  pub moved : HasMoved old new log log' whole [] count
  pub lines : Appends told told' (lines_by e line old moved.turns)

pub traced_none : (e : Extent) (line : Whole → List ℕ) (s : State) (c : List DeviceCall) (o : Option (List ℕ)) (r : List (Option ℕ)) (told : Option (List ℕ)) (limit : ℕ) → HasTraced e line s s (logs c o r) (logs c o r) true (limit - limit) told told
unfolding lines_by moved_none
traced_none e line s c o r told limit = record { count = 0; same = omega arith; moved = moved_none s c o o r true (appends_none o); lines = appends_none told }

-- the line of the next tick was sent, and then moves were made
pub traced_on : {e : Extent} {line : Whole → List ℕ} {a b c : State} {f g h : Logs} {limit left left' : ℕ} {t t' t'' : Option (List ℕ)} (whole : Bool) → left ≤ limit → left' ≤ left → HasTraced e line a b f g true (limit - left) t t' → HasMoved b c g h whole [] (left - left') → AddsFirst e b (left - left') → Appends t' t'' (line_next e line b) → HasTraced e line a c f h whole (limit - left') t t''
unfolding moved_add
traced_on {e} {line} {a} {b} {c} {f} {g} {h} {limit} {left} {left'} {t} {t'} {t''} whole most fewer x y first sent = record {
  count = x.count + (left - left');
  same = omega (arith, x.same, most, fewer);
  moved = moved_add a b c f g h whole [] [] x.count (left - left') x.moved y;
  lines = subst (λ bs. Appends t t'' bs) (sym joined) (appends_both t t' t'' (lines_by e line a x.moved.turns) (line_next e line b) x.lines sent);
} where
  joined : lines_by e line a (x.moved.turns ++ y.turns) ≡ lines_by e line a x.moved.turns ++ line_next e line b
  joined = lines-append e line x.moved.turns y.turns a
      ∙ ap (λ s. lines_by e line a x.moved.turns ++ lines_by e line s y.turns) (sym x.moved.state_is)
      ∙ ap (λ ls. lines_by e line a x.moved.turns ++ ls) (first y.turns y.accepted y.words_are y.ticks_are line)

appends_less : (t t' : Option (List ℕ)) (bs : List ℕ) → Appends t t' (bs ++ []) → Appends t t' bs
appends_less t t' bs h = subst (λ ls. Appends t t' ls) (append-nil bs) h

appends_more : (t t' : Option (List ℕ)) (bs : List ℕ) → Appends t t' bs → Appends t t' (bs ++ [])
appends_more t t' bs h = subst (λ ls. Appends t t' ls) (sym (append-nil bs)) h

-- both were flushed, and were sent nothing more
pub traced_kept : {e : Extent} {line : Whole → List ℕ} {a b : State} {c d : List DeviceCall} {o o' o'' : Option (List ℕ)} {r r' : List (Option ℕ)} {n : ℕ} {t t' t'' : Option (List ℕ)} (whole : Bool) → Keeps o' o'' → Keeps t' t'' → HasTraced e line a b (logs c o r) (logs d o' r') true n t t' → HasTraced e line a b (logs c o r) (logs d o'' r') whole n t t''
unfolding moved_so moved_kept
traced_kept {e} {line} {a} {b} {c} {d} {o} {o'} {o''} {r} {r'} {n} {t} {t'} {t''} whole k l x = record {
  count = x.count;
  same = x.same;
  moved = moved_so a b (logs c o r) (logs d o'' r') whole [] x.count (moved_kept a b c d o o' o'' r r' [] x.count k x.moved);
  lines = appends_less t t'' (lines_by e line a x.moved.turns) (appends_both t t' t'' (lines_by e line a x.moved.turns) [] x.lines (kept_appends t' t'' l));
}

run_of : {e : Extent} {line : Whole → List ℕ} {a b : State} {f g : Logs} {limit left : ℕ} {t t' : Option (List ℕ)} (why : Stop) → left ≤ limit → (why ≡ stop.Limit → left ≡ 0) → (x : HasTraced e line a b f g (is_sent why) (limit - left) t t') → HasRun a b f g limit why
run_of {e} {line} {a} {b} {f} {g} {limit} {left} why most none x = record {
  ticks = x.count;
  few = omega (arith, x.same);
  all = λ q. omega (arith, none q, most, x.same);
  moved = x.moved;
  few_answers = omega (arith, few_answers x.moved.turns a x.moved.accepted, x.moved.ticks_are, one_waits a.wait, x.same);
}

-- a run that stopped, and whose trace was sent
pub traced_run : {e : Extent} {line : Whole → List ℕ} {a b : State} {f g : Logs} {limit left : ℕ} {t t' : Option (List ℕ)} (why : Stop) → left ≤ limit → (why ≡ stop.Limit → left ≡ 0) → HasTraced e line a b f g (is_sent why) (limit - left) t t' → HasRunTraced e line a b f g limit why t t'
unfolding run_of
traced_run {e} {line} {a} {b} {f} {g} {limit} {left} {t} {t'} why most none x = record {
  run = run_of why most none x;
  front = [];
  back = [];
  trace_is = appends_more t t' (lines_by e line a x.moved.turns) x.lines;
  last = inl refl;
}

-- what was sent before a line was cut, and the front of that line
cut_lines : (t t' t'' : Option (List ℕ)) (bs l : List ℕ) → Appends t t' bs → AppendsPart t' t'' l → (front : List ℕ) × (back : List ℕ) × Appends t t'' (bs ++ front) × (l ≡ front ++ back)
cut_lines t t' t'' bs l h k = grind (arith, appends_both)

-- a run that stopped since a line couldn't be sent
pub traced_cut : {e : Extent} {line : Whole → List ℕ} {a b : State} {f g : Logs} {limit left : ℕ} {t t' t'' : Option (List ℕ)} → left ≤ limit → HasTraced e line a b f g true (limit - left) t t' → AppendsPart t' t'' (line_next e line b) → HasRunTraced e line a b f g limit stop.TraceFault t t''
unfolding run_of
traced_cut {e} {line} {a} {b} {f} {g} {limit} {left} {t} {t'} {t''} most x part =
    let k = cut_lines t t' t'' (lines_by e line a x.moved.turns) (line_next e line b) x.lines part in
    record {
      run = run_of stop.TraceFault most (λ q. cc) x;
      front = k.0;
      back = k.1;
      trace_is = k.2;
      last = inr (refl, k.3);
    }
