-- A run, move by move.
use Rattle.std.proofs.Common.{◌≡◌, ℕ, zero, suc, ◌+◌, ◌-◌, ◌<◌, ◌≤◌, List, [], ◌∷◌, ◌++◌, Option, Some, Bool, true, false, Result, Ok, Err, OnErr, refl, sym, ap, subst, ◌∙◌, arith, append-nil, append_assoc, length}
use Rattle.std.specs.Io.KnownBytes.{Appends}
use Rattle.block_buffers.specs.DeviceCalls.{DeviceCall}
use Rattle.machine_parts.specs.Whole.{Whole}
use Rattle.machine_parts.specs.declared.parts.Request.{Request}
use Rattle.machine.specs.declared.act.Act.{Act}
use Rattle.machine.specs.declared.act.Event.{Event}
use Rattle.machine.specs.declared.act.Event.TheVariants as event
use Rattle.machine.specs.declared.act.Shown.TheVariants.{Nothing}
use Rattle.machine.specs.State.{State}
use Rattle.machine.specs.Tick.{AreTicked, Runs, by_fault, is_quiet, is_running, ran, running, ticked}
use Rattle.machine.specs.Answer.{Reply, asked_by, answer_of, answered, read_answered, write_answered}
use Rattle.machine.proofs.Ran.{ran_quiet, ran_loud}
use Rattle.inner_interpreter.specs.Moves.{Turn, Tick, Answer, Accepts, device_call, shown_bytes}
use Rattle.inner_interpreter.specs.Histories.{acted}
use Rattle.inner_interpreter.specs.Served.{HasActed}
use Rattle.inner_interpreter.specs.Worlds.{waiting}
use Rattle.inner_interpreter.specs.Sent.{AppendsPart}
use Rattle.inner_interpreter.proofs.Quiet.{ticked_runs, quiet_shows}
use Rattle.inner_interpreter.proofs.Sending.{appends_both, part_first, part_second}
use Rattle.inner_interpreter.proofs.Moving.{appends_none}
use Rattle.serving.specs.Frames.{shown_reply, shown_pieces}
use Rattle.serving.specs.Replies.{end_reply, standing_after}
use Rattle.serving.specs.Requests.{Run}
use Rattle.serving.specs.Running.{Progress, HasRunTo, Lead, Comes, IsAsking, begun, onward, next_of, next_at, is_fault}
use Rattle.serving.specs.Served.{HasObeyed, Sends, run_served}
use Rattle.serving.specs.declared.running.Next.TheVariants as next

abbrev pub progress : State → Event → ℕ → ℕ → List DeviceCall → List ℕ → Progress
progress s e d sh cs rs = record { state = s; event = e; done = d; shown = sh; calls = cs; replies = rs }

-- a run from b came here
pub record Reached (count limit : ℕ) (b : State) (p : Progress) : Type 0 where
  pub at : Progress
  pub turns : List Turn
  pub lead : Lead count limit (begun b) turns at
  pub is : at ≡ p

-- the same place, said otherwise
reached_as : (count limit : ℕ) (b s : State) (e : Event) (d d' sh sh' : ℕ) (cs cs' : List DeviceCall) (rs rs' : List ℕ) → d ≡ d' → sh ≡ sh' → cs ≡ cs' → rs ≡ rs' → Reached count limit b (progress s e d sh cs rs) → Reached count limit b (progress s e d' sh' cs' rs')
reached_as count limit b s e d d' sh sh' cs cs' rs rs' p q r t x = rw (← p, ← q, ← r, ← t) x

pub first_reached : (count limit : ℕ) (b : State) → Reached count limit b (begun b)
unfolding Lead
first_reached count limit b = record { at = begun b; turns = []; lead = refl; is = refl }

-- one move more
one_move : (count limit : ℕ) (b : State) (p : Progress) (t : Turn) → Reached count limit b p → Comes (next_at count limit p) p.state t → Reached count limit b (onward p t)
unfolding Lead
one_move count limit b p t x h = record {
  at = onward p t;
  turns = t ∷ x.turns;
  lead = (x.at, x.lead, subst (λ (m : Progress). Comes (next_at count limit m) m.state t) (sym x.is) h, ap (λ m. onward m t) (sym x.is));
  is = refl;
}

-- where a tick comes
ticks_next : (count limit d sh : ℕ) (p : Whole) (e : Event) → is_fault e ≡ false → d < limit → sh < 2048 → next_of count limit (running p) e d sh ≡ next.Ticks
unfolding next_of
ticks_next count limit d sh p e f m k = grind arith

-- a tick
one_tick : (count limit : ℕ) (b : State) (p : Whole) (e : Event) (d sh : ℕ) (cs : List DeviceCall) (rs : List ℕ) → is_fault e ≡ false → d < limit → sh < 2048 → Reached count limit b (progress (running p) e d sh cs rs) → Reached count limit b (onward (progress (running p) e d sh cs rs) Tick)
one_tick count limit b p e d sh cs rs f m k x =
    one_move count limit b (progress (running p) e d sh cs rs) Tick x (subst (λ n. Comes n (running p) Tick) (sym (ticks_next count limit d sh p e f m k)) tt)

none_shown : shown_reply [] ≡ []
unfolding shown_reply shown_pieces
none_shown = refl

-- after ticks, of which the last showed this
abbrev pub after_ticks : ℕ → ℕ → List DeviceCall → List ℕ → State → Act → Progress
after_ticks d sh cs rs s act =
    progress s act.event d (sh + length (shown_bytes s.parts.memory act.shown)) cs (rs ++ shown_reply (shown_bytes s.parts.memory act.shown))

-- so many ticks
record Ticked (count limit : ℕ) (b : State) (d sh : ℕ) (cs : List DeviceCall) (rs : List ℕ) (k n : ℕ) (p : Whole) : Type 0 where
  ticks : ℕ
  few : ticks ≤ n
  count_is : (ran k n p).0 ≡ k + ticks
  reached : Reached count limit b (after_ticks (d + ticks) sh cs rs (ran k n p).1 (ran k n p).2)

loud_tick : (count limit : ℕ) (b : State) (p : Whole) (e : Event) (d sh : ℕ) (cs : List DeviceCall) (rs : List ℕ) → is_fault e ≡ false → d < limit → sh < 2048 → Reached count limit b (progress (running p) e d sh cs rs) → Reached count limit b (after_ticks (d + 1) sh cs rs (ticked p).0 (ticked p).1)
loud_tick count limit b p e d sh cs rs f m k x =
    let t = ticked p in
    let bytes : List ℕ = shown_bytes t.0.parts.memory t.1.shown in
    reached_as count limit b t.0 t.1.event (d + 1) (d + 1) (sh + length bytes) (sh + length bytes) (cs ++ []) cs (rs ++ shown_reply bytes) (rs ++ shown_reply bytes) refl refl (append-nil cs) refl (one_tick count limit b p e d sh cs rs f m k x)

quiet_event : (act : Act) → is_quiet act ≡ true → act.event ≡ event.Went
quiet_event act q = grind arith

quiet_tick : (count limit : ℕ) (b : State) (p : Whole) (e : Event) (d sh : ℕ) (cs : List DeviceCall) (rs : List ℕ) → is_fault e ≡ false → d < limit → sh < 2048 → is_quiet (ticked p).1 ≡ true → Reached count limit b (progress (running p) e d sh cs rs) → Reached count limit b (progress (running (ticked p).0.parts) event.Went (d + 1) sh cs rs)
quiet_tick count limit b p e d sh cs rs f m k q x =
    let t = ticked p in
    let silent : shown_bytes t.0.parts.memory t.1.shown ≡ [] = quiet_shows t.0.parts.memory t.1 q in
    let same : sh + length (shown_bytes t.0.parts.memory t.1.shown) ≡ sh = ap (λ (l : List ℕ). sh + length l) silent ∙ omega arith in
    let none : rs ++ shown_reply (shown_bytes t.0.parts.memory t.1.shown) ≡ rs = ap (λ (l : List ℕ). rs ++ shown_reply l) silent ∙ ap (λ l. rs ++ l) none_shown ∙ append-nil rs in
    let y : Reached count limit b (progress t.0 t.1.event (d + 1) sh cs rs) =
    reached_as count limit b t.0 t.1.event (d + 1) (d + 1) (sh + length (shown_bytes t.0.parts.memory t.1.shown)) sh cs cs (rs ++ shown_reply (shown_bytes t.0.parts.memory t.1.shown)) rs refl same refl none (loud_tick count limit b p e d sh cs rs f m k x) in
    subst (λ (s : State). Reached count limit b (progress s event.Went (d + 1) sh cs rs)) (ticked_runs p q) (subst (λ v. Reached count limit b (progress t.0 v (d + 1) sh cs rs)) (quiet_event t.1 q) y)

by_tick : (count limit : ℕ) (b : State) (p : Whole) (e : Event) (d sh : ℕ) (cs : List DeviceCall) (rs : List ℕ) (k n : ℕ) → is_fault e ≡ false → d < limit → sh < 2048 → Reached count limit b (progress (running p) e d sh cs rs)
    → (Reached count limit b (progress (running (ticked p).0.parts) event.Went (d + 1) sh cs rs) → Ticked count limit b (d + 1) sh cs rs (k + 1) n (ticked p).0.parts) → (q : Bool) → is_quiet (ticked p).1 ≡ q → Ticked count limit b d sh cs rs k (suc n) p
by_tick count limit b p e d sh cs rs k n f m j x more false q =
    let loud : ran k (suc n) p ≡ (k + 1, (ticked p).0, (ticked p).1) = ran_loud k (suc n) p (omega arith) q in
    record { ticks = 1; few = omega arith; count_is = ap (λ (r : ℕ × State × Act). r.0) loud; reached = rw loud (loud_tick count limit b p e d sh cs rs f m j x) }
by_tick count limit b p e d sh cs rs k n f m j x more true q =
    let less : suc n - 1 ≡ n = omega arith in
    let same : ran k (suc n) p ≡ ran (k + 1) n (ticked p).0.parts = ran_quiet k (suc n) p (omega arith) q ∙ ap (λ i. ran (k + 1) i (ticked p).0.parts) less in
    let y : Ticked count limit b (d + 1) sh cs rs (k + 1) n (ticked p).0.parts = more (quiet_tick count limit b p e d sh cs rs f m j q x) in
    let sum : d + 1 + y.ticks ≡ d + suc y.ticks = omega arith in
    record {
      ticks = suc y.ticks;
      few = omega (arith, y.few);
      count_is = ap (λ (r : ℕ × State × Act). r.0) same ∙ y.count_is ∙ omega arith;
      reached = rw same (subst (λ i. Reached count limit b (after_ticks i sh cs rs (ran (k + 1) n (ticked p).0.parts).1 (ran (k + 1) n (ticked p).0.parts).2)) sum y.reached);
    }

-- ticks after one that went on
more_ticks : (count limit : ℕ) (b : State) (n : ℕ) (p : Whole) (d sh : ℕ) (cs : List DeviceCall) (rs : List ℕ) (k : ℕ) → d + n ≤ limit → sh < 2048 → Reached count limit b (progress (running p) event.Went d sh cs rs) → Ticked count limit b d sh cs rs k n p
unfolding ran shown_bytes
more_ticks count limit b zero p d sh cs rs k m j x = record {
  ticks = 0;
  few = omega arith;
  count_is = omega arith;
  reached = reached_as count limit b (running p) event.Went d (d + 0) sh (sh + 0) cs cs rs (rs ++ shown_reply []) (omega arith) (omega arith) refl (sym (ap (λ l. rs ++ l) none_shown ∙ append-nil rs)) x;
}
more_ticks count limit b (suc n) p d sh cs rs k m j x =
    by_tick count limit b p event.Went d sh cs rs k n refl (omega (arith, m)) j x (λ y. more_ticks count limit b n (ticked p).0.parts (d + 1) sh cs rs (k + 1) (omega (arith, m)) j y) (is_quiet (ticked p).1) refl

-- one at least
some_ticks : (count limit : ℕ) (b : State) (n : ℕ) (p : Whole) (e : Event) (d sh : ℕ) (cs : List DeviceCall) (rs : List ℕ) → is_fault e ≡ false → 0 < n → d + n ≤ limit → sh < 2048 → Reached count limit b (progress (running p) e d sh cs rs) → Ticked count limit b d sh cs rs 0 n p
some_ticks count limit b zero p e d sh cs rs f some m j x = absurd (omega (arith, some))
some_ticks count limit b (suc n) p e d sh cs rs f some m j x =
    by_tick count limit b p e d sh cs rs 0 n f (omega (arith, m)) j x (λ y. more_ticks count limit b n (ticked p).0.parts (d + 1) sh cs rs 1 (omega (arith, m)) j y) (is_quiet (ticked p).1) refl

-- what comes next says of the machine
pub record IsTicking (limit d sh : ℕ) (s : State) (e : Event) : Type 0 where
  pub runs : Runs s
  pub few : d < limit
  pub room : sh < 2048
  pub fine : is_fault e ≡ false

pub ticking : (count limit d sh : ℕ) (s : State) (e : Event) → next_of count limit s e d sh ≡ next.Ticks → IsTicking limit d sh s e
unfolding next_of
ticking count limit d sh s e h = grind arith

pub asking : (count limit d sh : ℕ) (s : State) (e : Event) (r : Request) → next_of count limit s e d sh ≡ next.Answers r → IsAsking s r
unfolding next_of
asking count limit d sh s e r h = grind arith

-- what the device's answers show: nothing
abbrev Silent : State × Act → Type 0
Silent v = shown_bytes v.0.parts.memory v.1.shown ≡ []

fault_silent : (p : Whole) (f : ℕ) → Silent (by_fault p Nothing f)
unfolding by_fault shown_bytes
fault_silent p f = grind arith

device_silent : (s : State) (r : Request) (reply : Reply) → IsAsking s r → Accepts s (Answer reply) → Silent (acted s (Answer reply))
unfolding answer_of answered read_answered write_answered shown_bytes
device_silent s r reply h a = grind (arith, fault_silent)

-- a run came here, over this device and writer
pub record UnderWay (count limit : ℕ) (b s : State) (e : Event) (d sh : ℕ) (calls calls' : List DeviceCall) (sent sent' : Option (List ℕ)) : Type 0 where
  pub cs : List DeviceCall
  pub rs : List ℕ
  pub reached : Reached count limit b (progress s e d sh cs rs)
  pub calls_are : calls' ≡ calls ++ cs
  pub sent_is : Appends sent sent' rs

pub under_way : (count limit : ℕ) (b : State) (c : List DeviceCall) (o : Option (List ℕ)) → UnderWay count limit b b event.Went 0 0 c c o o
under_way count limit b c o = record { cs = []; rs = []; reached = first_reached count limit b; calls_are = sym (append-nil c); sent_is = appends_none o }

-- the device answered
pub answered_on : (count limit : ℕ) (b s t : State) (e : Event) (d sh : ℕ) (c c' c'' : List DeviceCall) (o o' : Option (List ℕ)) (r : Request) (act : Act) → next_of count limit s e d sh ≡ next.Answers r → UnderWay count limit b s e d sh c c' o o'
    → HasActed s t c' c'' [] [] act → UnderWay count limit b t act.event d sh c c'' o o'
answered_on count limit b s t e d sh c c' c'' o o' r act n x h =
    let ask : IsAsking s r = asking count limit d sh s e r n in
    let p : Progress = progress s e d sh x.cs x.rs in
    let comes : Comes (next_at count limit p) s (Answer h.reply) = subst (λ v. Comes v s (Answer h.reply)) (sym n) (ask.asks, h.accepted) in
    let y : Reached count limit b (onward p (Answer h.reply)) = one_move count limit b p (Answer h.reply) x.reached comes in
    let silent : Silent (acted s (Answer h.reply)) = device_silent s r h.reply ask h.accepted in
    let m = acted s (Answer h.reply) in
    let bytes : List ℕ = shown_bytes m.0.parts.memory m.1.shown in
    let cs : List DeviceCall = x.cs ++ device_call s (Answer h.reply) in
    let z : Reached count limit b (progress m.0 m.1.event d sh cs x.rs) =
    reached_as count limit b m.0 m.1.event (d + 0) d (sh + length bytes) sh cs cs (x.rs ++ shown_reply bytes) x.rs (omega arith) (ap (λ (l : List ℕ). sh + length l) silent ∙ omega arith) refl
    (ap (λ (l : List ℕ). x.rs ++ shown_reply l) silent ∙ ap (λ l. x.rs ++ l) none_shown ∙ append-nil x.rs) y in
    record {
      cs = cs;
      rs = x.rs;
      reached = subst (λ (v : State × Act). Reached count limit b (progress v.0 v.1.event d sh cs x.rs)) (sym h.acts) z;
      calls_are = h.calls_are ∙ ap (λ v. v ++ device_call s (Answer h.reply)) x.calls_are ∙ append_assoc c x.cs (device_call s (Answer h.reply));
      sent_is = x.sent_is;
    }

-- ticks were made, whose bytes are to be sent
record WereTicked (count limit : ℕ) (b t : State) (d sh : ℕ) (cs : List DeviceCall) (rs : List ℕ) (act : Act) : Type 0 where
  reached : Reached count limit b (after_ticks d sh cs rs t act)

runs_running : (s : State) → Runs s → s ≡ running s.parts
runs_running s h = rw (h.0, h.1) refl

were_ticked : (count limit : ℕ) (b s t : State) (e : Event) (d sh n k : ℕ) (cs : List DeviceCall) (rs : List ℕ) (act : Act) → next_of count limit s e d sh ≡ next.Ticks → n ≡ limit - d → AreTicked n s t (k, act) → Reached count limit b (progress s e d sh cs rs) → WereTicked count limit b t (d + k) sh cs rs act
were_ticked count limit b s t e d sh n k cs rs act nx same h x =
    let i : IsTicking limit d sh s e = ticking count limit d sh s e nx in
    let y : Ticked count limit b d sh cs rs 0 n s.parts =
    some_ticks count limit b n s.parts e d sh cs rs i.fine (omega (arith, same, i.few)) (omega (arith, same, i.few)) i.room (subst (λ (u : State). Reached count limit b (progress u e d sh cs rs)) (runs_running s i.runs) x) in
    let ticks : y.ticks ≡ k = sym (ap (λ (v : ℕ × State × Act). v.0) h.1 ∙ y.count_is ∙ omega arith) in
    record {
      reached = subst (λ (v : ℕ × State × Act). Reached count limit b (after_ticks (d + v.0) sh cs rs v.1 v.2)) (sym h.1)
          (let all : (ran 0 n s.parts).0 ≡ y.ticks = y.count_is ∙ omega arith in subst (λ j. Reached count limit b (after_ticks (d + j) sh cs rs (ran 0 n s.parts).1 (ran 0 n s.parts).2)) (sym all) y.reached);
    }

pub ticked_on : (count limit : ℕ) (b s t : State) (e : Event) (d sh n k len : ℕ) (c c' : List DeviceCall) (o o' o'' : Option (List ℕ)) (act : Act) → next_of count limit s e d sh ≡ next.Ticks → n ≡ limit - d → AreTicked n s t (k, act) → len ≡ length (shown_bytes t.parts.memory act.shown)
    → UnderWay count limit b s e d sh c c' o o' → Appends o' o'' (shown_reply (shown_bytes t.parts.memory act.shown)) → UnderWay count limit b t act.event (d + k) (sh + len) c c' o o''
ticked_on count limit b s t e d sh n k len c c' o o' o'' act nx same h l x sent = record {
  cs = x.cs;
  rs = x.rs ++ shown_reply (shown_bytes t.parts.memory act.shown);
  reached = rw l (were_ticked count limit b s t e d sh n k x.cs x.rs act nx same h x.reached).reached;
  calls_are = x.calls_are;
  sent_is = appends_both o o' o'' x.rs (shown_reply (shown_bytes t.parts.memory act.shown)) x.sent_is sent;
}

-- a run that came here was obeyed so far
run_to : (count limit : ℕ) (b : State) (p : Progress) (whole : Bool) → Reached count limit b p → (whole ≡ true → next_at count limit p ≡ next.Ends) → HasRunTo count limit b whole p
run_to count limit b p whole x ends = record { turns = x.turns; lead = subst (λ q. Lead count limit (begun b) x.turns q) x.is x.lead; ends = ends }

run_obeyed : (count limit : ℕ) (b : State) (p : Progress) (whole : Bool) (c c' : List DeviceCall) (o o' : Option (List ℕ)) → Reached count limit b p → (whole ≡ true → next_at count limit p ≡ next.Ends) → c' ≡ c ++ p.calls → Sends whole o o' (run_served p).replies → HasObeyed count (Run limit) whole b p.state c c' o o'
run_obeyed count limit b p whole c c' o o' x ends calls sent = record { one = run_served p; serves = (p, run_to count limit b p whole x ends, refl); served_is = record { state_is = refl; calls_are = calls; sent_is = sent } }

pub run_ended : (count limit : ℕ) (b s : State) (e : Event) (d sh : ℕ) (c c' : List DeviceCall) (o o' o'' : Option (List ℕ)) → next_of count limit s e d sh ≡ next.Ends → UnderWay count limit b s e d sh c c' o o' → Appends o' o'' (end_reply d (standing_after s e)) → HasObeyed count (Run limit) true b s c c' o o''
run_ended count limit b s e d sh c c' o o' o'' n x sent =
    run_obeyed count limit b (progress s e d sh x.cs x.rs) true c c' o o'' x.reached (λ q. n) x.calls_are (appends_both o o' o'' x.rs (end_reply d (standing_after s e)) x.sent_is sent)

never : (A : Type 0) → false ≡ true → A
never A e = grind arith

pub run_cut : (count limit : ℕ) (b s : State) (e : Event) (d sh : ℕ) (c c' : List DeviceCall) (o o' o'' : Option (List ℕ)) → UnderWay count limit b s e d sh c c' o o' → AppendsPart o' o'' (end_reply d (standing_after s e)) → HasObeyed count (Run limit) false b s c c' o o''
run_cut count limit b s e d sh c c' o o' o'' x sent =
    run_obeyed count limit b (progress s e d sh x.cs x.rs) false c c' o o'' x.reached (never _) x.calls_are (part_second o o' o'' x.rs (end_reply d (standing_after s e)) x.sent_is sent)

pub ticks_cut : (count limit : ℕ) (b s t : State) (e : Event) (d sh n k : ℕ) (c c' : List DeviceCall) (o o' o'' : Option (List ℕ)) (act : Act) → next_of count limit s e d sh ≡ next.Ticks → n ≡ limit - d → AreTicked n s t (k, act)
    → UnderWay count limit b s e d sh c c' o o' → AppendsPart o' o'' (shown_reply (shown_bytes t.parts.memory act.shown)) → HasObeyed count (Run limit) false b t c c' o o''
ticks_cut count limit b s t e d sh n k c c' o o' o'' act nx same h x sent =
    let p : Progress = after_ticks (d + k) sh x.cs x.rs t act in
    run_obeyed count limit b p false c c' o o'' (were_ticked count limit b s t e d sh n k x.cs x.rs act nx same h x.reached).reached (never _) x.calls_are
    (part_first o o'' (x.rs ++ shown_reply (shown_bytes t.parts.memory act.shown)) (end_reply (d + k) (standing_after t act.event)) (part_second o o' o'' x.rs (shown_reply (shown_bytes t.parts.memory act.shown)) x.sent_is sent))

-- what holds of an error, and what follows from it
pub on_err_then : {X E : Type 0} (r : Result X E) (P Q : Type 0) → (P → Q) → OnErr r P → OnErr r Q
on_err_then (Ok x) P Q f h = h
on_err_then (Err e) P Q f h = f h

-- a request waits
pub asked_one : (s : State) (r : Request) → IsAsking s r → waiting s.wait ≡ 1
asked_one s r h = one_asked s.wait r h.asks where
  one_asked : (w : Option (Request × ℕ)) (r : Request) → asked_by w ≡ Some r → waiting w ≡ 1
  one_asked w r e = grind arith

pub no_refusal : (s : State) → Runs s → is_running s ≡ false → ⊥
no_refusal s h k = grind arith
