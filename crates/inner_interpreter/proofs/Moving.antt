-- Moves that were made.
use Rattle.std.proofs.Common.{◌≡◌, ℕ, zero, suc, ◌+◌, ◌-◌, ◌≤◌, List, [], ◌∷◌, ◌++◌, Option, Some, None, Bool, true, false, refl, sym, ap, subst, ◌∙◌, arith, append-nil, append_assoc, if◌then◌else◌, length}
use Rattle.std.proofs.lemmas.List.Sums.{sum_by-cons, sum_by-append}
use Rattle.machine_parts.specs.Whole.{Whole}
use Rattle.machine_parts.specs.declared.parts.Request.{Request}
use Rattle.machine.specs.declared.act.Act.{Act}
use Rattle.machine.specs.State.{State}
use Rattle.machine.specs.Tick.{ran, ticked, is_quiet, running}
use Rattle.machine.specs.Answer.{Reply, InputFault, is_answer, asked_by, answered, answer_of}
use Rattle.inner_interpreter.specs.Moves.{Turn, Tick, Answer, Enter, after, after_turn, Accepts, AreAccepted, shown_bytes, call_by, device_call, device_calls, turn_bytes, shown_by, IsTurnGiven, AreGiven, Logs, logs, is_tick, is_reply, words_in, ticks_in, answers_in, HasMoved}
use Rattle.inner_interpreter.specs.Served.{HasActed, HasFaulted}
use Rattle.block_buffers.specs.DeviceCalls.{DeviceCall}
use Rattle.inner_interpreter.specs.Sent.{AppendsPart}
use Rattle.std.specs.Io.KnownBytes.{Appends, Keeps}
use Rattle.inner_interpreter.proofs.Sending.{appends_both}
use Rattle.std.proofs.lemmas.List.{length-append}
use Rattle.inner_interpreter.specs.Worlds.{waiting}
use Rattle.inner_interpreter.proofs.Ending.{answer_none, one_waits}
use Rattle.inner_interpreter.proofs.Quiet.{ticked_runs, quiet_shows}
use Rattle.machine.proofs.Ran.{ran_quiet, ran_loud}

-- an answer fits only while a request waits
pub asked_waits : (s : State) (reply : Reply) → is_answer (asked_by s.wait) reply ≡ true → waiting s.wait ≡ 1
asked_waits s reply h = grind arith

pub after-append : (ts us : List Turn) (s : State) → after s (ts ++ us) ≡ after (after s ts) us
unfolding after
after-append [] us s = refl
after-append (t ∷ ts) us s = after-append ts us (after_turn s t)

pub accepted-append : (ts us : List Turn) (s : State) → AreAccepted s ts → AreAccepted (after s ts) us → AreAccepted s (ts ++ us)
unfolding after AreAccepted
accepted-append [] us s h k = k
accepted-append (t ∷ ts) us s h k = (h.0, accepted-append ts us (after_turn s t) h.1 k)

pub device_calls-append : (ts us : List Turn) (s : State) → device_calls s (ts ++ us) ≡ device_calls s ts ++ device_calls (after s ts) us
unfolding after device_calls
device_calls-append [] us s = refl
device_calls-append (t ∷ ts) us s = ap (λ cs. device_call s t ++ cs) (device_calls-append ts us (after_turn s t)) ∙ sym (append_assoc (device_call s t) (device_calls (after_turn s t) ts) (device_calls (after (after_turn s t) ts) us))

pub shown_by-append : (ts us : List Turn) (s : State) → shown_by s (ts ++ us) ≡ shown_by s ts ++ shown_by (after s ts) us
unfolding after shown_by
shown_by-append [] us s = refl
shown_by-append (t ∷ ts) us s = ap (λ bs. turn_bytes s t ++ bs) (shown_by-append ts us (after_turn s t)) ∙ sym (append_assoc (turn_bytes s t) (shown_by (after_turn s t) ts) (shown_by (after (after_turn s t) ts) us))

pub given-append : (ts us : List Turn) (s : State) (g h : List (Option ℕ)) → AreGiven s ts g → AreGiven (after s ts) us h → AreGiven s (ts ++ us) (g ++ h)
unfolding after AreGiven
given-append [] us s g h x y = rw x y
given-append (t ∷ ts) us s g h x y = (x.0, x.1 ++ h, ap (λ v. v ++ h) x.2 ∙ append_assoc x.0 x.1 h, x.3, given-append ts us (after_turn s t) x.1 h x.4 y)

pub appends_none : (a : Option (List ℕ)) → Appends a a []
appends_none a = grind (arith, append-nil)

pub kept_appends : (a b : Option (List ℕ)) → Keeps a b → Appends a b []
kept_appends a b h = grind (arith, append-nil)

unfoldable pub moved_none : (s : State) (c : List DeviceCall) (a b : Option (List ℕ)) (r : List (Option ℕ)) (whole : Bool) → Appends a b [] → HasMoved s s (logs c a r) (logs c b r) whole [] 0
unfolding after device_calls shown_by AreAccepted AreGiven
moved_none s c a b r whole h = record { turns = []; accepted = tt; state_is = refl; calls_are = sym (append-nil c); front = []; back = []; shown_is = refl; sent_is = h; all_sent = λ q. refl; given = []; reads_are = sym (append-nil r); are_given = refl; words_are = refl; ticks_are = refl }

pub words_in-append : (ts us : List Turn) → words_in (ts ++ us) ≡ words_in ts ++ words_in us
words_in-append [] us = refl
words_in-append (Tick ∷ ts) us = words_in-append ts us
words_in-append (Answer reply ∷ ts) us = words_in-append ts us
words_in-append (Enter word ∷ ts) us = ap (λ ws. word ∷ ws) (words_in-append ts us)

unfoldable pub moved_add : (a b c : State) (f g h : Logs) (whole : Bool) (us vs : List ℕ) (m n : ℕ) → HasMoved a b f g true us m → HasMoved b c g h whole vs n → HasMoved a c f h whole (us ++ vs) (m + n)
moved_add a b c f g h whole us vs m n x y =
    let none : x.back ≡ [] = x.all_sent refl in
    let first : shown_by a x.turns ≡ x.front = x.shown_is ∙ ap (λ bs. x.front ++ bs) none ∙ append-nil x.front in
    record {
      turns = x.turns ++ y.turns;
      accepted = accepted-append x.turns y.turns a x.accepted (rw (← x.state_is) y.accepted);
      state_is = y.state_is ∙ ap (λ s. after s y.turns) x.state_is ∙ sym (after-append x.turns y.turns a);
      calls_are = y.calls_are ∙ ap (λ cs. cs ++ device_calls b y.turns) x.calls_are ∙ append_assoc f.calls (device_calls a x.turns) (device_calls b y.turns) ∙ ap (λ s. f.calls ++ (device_calls a x.turns ++ device_calls s y.turns)) x.state_is ∙ ap (λ cs. f.calls ++ cs) (sym (device_calls-append x.turns y.turns a));
      front = x.front ++ y.front;
      back = y.back;
      shown_is = shown_by-append x.turns y.turns a ∙ ap (λ s. shown_by a x.turns ++ shown_by s y.turns) (sym x.state_is) ∙ ap (λ bs. bs ++ shown_by b y.turns) first ∙ ap (λ bs. x.front ++ bs) y.shown_is ∙ sym (append_assoc x.front y.front y.back);
      sent_is = appends_both f.sent g.sent h.sent x.front y.front x.sent_is y.sent_is;
      all_sent = y.all_sent;
      given = x.given ++ y.given;
      reads_are = y.reads_are ∙ ap (λ v. v ++ y.given) x.reads_are ∙ append_assoc f.reads x.given y.given;
      are_given = given-append x.turns y.turns a x.given y.given x.are_given (rw (← x.state_is) y.are_given);
      words_are = words_in-append x.turns y.turns ∙ ap (λ ws. ws ++ words_in y.turns) x.words_are ∙ ap (λ ws. us ++ ws) y.words_are;
      ticks_are = sum_by-append (λ t. if is_tick t then 1 else 0) x.turns y.turns ∙ omega (arith, x.ticks_are, y.ticks_are);
    }

-- one move, and all its bytes are sent
pub moved_one : (a : State) (t : Turn) (f g : List DeviceCall) (s s' : Option (List ℕ)) (r r' given : List (Option ℕ)) (whole : Bool) → Accepts a t → g ≡ f ++ device_call a t → Appends s s' (turn_bytes a t) → r' ≡ r ++ given → IsTurnGiven a t given → HasMoved a (after_turn a t) (logs f s r) (logs g s' r') whole (words_in (t ∷ [])) (ticks_in (t ∷ []))
unfolding after device_calls shown_by AreAccepted AreGiven
moved_one a t f g s s' r r' given whole accepted calls_are sent_is reads_are is_given = record {
  turns = t ∷ [];
  accepted = (accepted, tt);
  state_is = refl;
  calls_are = calls_are ∙ ap (λ cs. f ++ cs) (sym (append-nil (device_call a t)));
  front = turn_bytes a t;
  back = [];
  shown_is = refl;
  sent_is = sent_is;
  all_sent = λ q. refl;
  given = given;
  reads_are = reads_are;
  are_given = (given, [], sym (append-nil given), is_given, refl);
  words_are = refl;
  ticks_are = refl;
}

-- one move, of whose bytes a front is sent
moved_part : (a : State) (t : Turn) (f g : List DeviceCall) (s s' : Option (List ℕ)) (r r' given : List (Option ℕ)) → Accepts a t → g ≡ f ++ device_call a t → AppendsPart s s' (turn_bytes a t) → r' ≡ r ++ given → IsTurnGiven a t given → HasMoved a (after_turn a t) (logs f s r) (logs g s' r') false (words_in (t ∷ [])) (ticks_in (t ∷ []))
unfolding after device_calls shown_by AreAccepted AreGiven
moved_part a t f g None s' r r' given accepted calls_are sent_is reads_are is_given = moved_one a t f g None s' r r' given false accepted calls_are tt reads_are is_given
moved_part a t f g (Some xs) None r r' given accepted calls_are sent_is reads_are is_given = absurd sent_is
moved_part a t f g (Some xs) (Some ys) r r' given accepted calls_are sent_is reads_are is_given = record {
  turns = t ∷ [];
  accepted = (accepted, tt);
  state_is = refl;
  calls_are = calls_are ∙ ap (λ cs. f ++ cs) (sym (append-nil (device_call a t)));
  front = sent_is.0;
  back = sent_is.1;
  shown_is = append-nil (turn_bytes a t) ∙ sent_is.2;
  sent_is = sent_is.3;
  all_sent = λ q. absurd (cc);
  given = given;
  reads_are = reads_are;
  are_given = (given, [], sym (append-nil given), is_given, refl);
  words_are = refl;
  ticks_are = refl;
}

-- an answer that was accepted, and what it shows was sent
pub moved_acted : (a b : State) (f g : List DeviceCall) (r r' : List (Option ℕ)) (act : Act) (s s' : Option (List ℕ)) → HasActed a b f g r r' act → Appends s s' (shown_bytes b.parts.memory act.shown) → HasMoved a b (logs f s r) (logs g s' r') true [] 0
moved_acted a b f g r r' act s s' x h =
    let state : b ≡ after_turn a (Answer x.reply) = ap (λ (v : State × Act). v.0) x.acts in
    let shown : shown_bytes b.parts.memory act.shown ≡ turn_bytes a (Answer x.reply) = ap (λ (v : State × Act). shown_bytes v.0.parts.memory v.1.shown) x.acts in
    rw state (moved_one a (Answer x.reply) f g s s' r r' x.given true x.accepted x.calls_are (rw (← shown) h) x.reads_are x.is_given)

pub moved_acted_part : (a b : State) (f g : List DeviceCall) (r r' : List (Option ℕ)) (act : Act) (s s' : Option (List ℕ)) → HasActed a b f g r r' act → AppendsPart s s' (shown_bytes b.parts.memory act.shown) → HasMoved a b (logs f s r) (logs g s' r') false [] 0
moved_acted_part a b f g r r' act s s' x h =
    let state : b ≡ after_turn a (Answer x.reply) = ap (λ (v : State × Act). v.0) x.acts in
    let shown : shown_bytes b.parts.memory act.shown ≡ turn_bytes a (Answer x.reply) = ap (λ (v : State × Act). shown_bytes v.0.parts.memory v.1.shown) x.acts in
    rw state (moved_part a (Answer x.reply) f g s s' r r' x.given x.accepted x.calls_are (rw (← shown) h) x.reads_are x.is_given)

-- these bytes were sent, or if not all were a front of them
abbrev Sends : Bool → Option (List ℕ) → Option (List ℕ) → List ℕ → Type 0
Sends true a b bs = Appends a b bs
Sends false a b bs = AppendsPart a b bs

-- no byte has no part
none_sent : (whole : Bool) (a b : Option (List ℕ)) → Sends whole a b [] → Appends a b []
none_sent true a b h = h
none_sent false None b h = tt
none_sent false (Some xs) None h = absurd h
none_sent false (Some xs) (Some ys) h =
    let sum : length h.0 + length h.1 ≡ 0 = sym (length-append h.0 h.1) ∙ sym (ap length h.2) in
    absurd (omega (arith, sum, h.4))

-- such an answer comes from no call of the device
no_call : (r : Option Request) (p : Whole) → call_by r p InputFault ≡ []
no_call r p = grind arith

abbrev Silent : State × Act → Type 0
Silent v = shown_bytes v.0.parts.memory v.1.shown ≡ []

-- and it shows nothing
fault_shows : (s : State) → Silent (answer_of s InputFault)
unfolding answer_of answered shown_bytes
fault_shows s = grind arith

-- the machine learned that the reader failed
pub moved_faulted : (a b : State) (f g : List DeviceCall) (r r' : List (Option ℕ)) (s : Option (List ℕ)) → HasFaulted a b f g r r' → HasMoved a b (logs f s r) (logs g s r') true [] 0
moved_faulted a b f g r r' s x = rw (x.state_is, x.calls_are) (moved_one a (Answer InputFault) f f s s r r' x.given true x.accepted (sym (append-nil f) ∙ ap (λ cs. f ++ cs) (sym (no_call (asked_by a.wait) a.parts))) (rw (fault_shows a) (appends_none s)) x.reads_are x.is_given)

moved_tick : (p : Whole) (c : List DeviceCall) (s s' : Option (List ℕ)) (r : List (Option ℕ)) (whole : Bool) → Sends whole s s' (turn_bytes (running p) Tick) → HasMoved (running p) (ticked p).0 (logs c s r) (logs c s' r) whole [] 1
moved_tick p c s s' r true h = moved_one (running p) Tick c c s s' r r [] true (refl, refl) (sym (append-nil c)) h (sym (append-nil r)) refl
moved_tick p c s s' r false h = moved_part (running p) Tick c c s s' r r [] (refl, refl) (sym (append-nil c)) h (sym (append-nil r)) refl

-- the bytes of the last act of a stretch
abbrev last_bytes : ℕ × State × Act → List ℕ
last_bytes r = shown_bytes r.1.parts.memory r.2.shown

-- n ticks, which k more make m
record RanSo (n k : ℕ) (p : Whole) (c : List DeviceCall) (s s' : Option (List ℕ)) (r : List (Option ℕ)) (whole : Bool) : Type 0 where
  ticks : ℕ
  count : (ran k n p).0 ≡ k + ticks
  moved : HasMoved (running p) (ran k n p).1 (logs c s r) (logs c s' r) whole [] ticks

ran_on : (n k : ℕ) (p : Whole) → is_quiet (ticked p).1 ≡ true → ran k (suc n) p ≡ ran (k + 1) n (ticked p).0.parts
ran_on n k p q = grind (arith, ran_quiet)

by_quiet : (n k : ℕ) (p : Whole) (c : List DeviceCall) (s s' : Option (List ℕ)) (r : List (Option ℕ)) (whole : Bool) → is_quiet (ticked p).1 ≡ true
    → ran k (suc n) p ≡ ran (k + 1) n (ticked p).0.parts → RanSo n (k + 1) (ticked p).0.parts c s s' r whole → RanSo (suc n) k p c s s' r whole
by_quiet n k p c s s' r whole q same more =
    let runs : (ticked p).0 ≡ running (ticked p).0.parts = ticked_runs p q in
    let silent : turn_bytes (running p) Tick ≡ [] = quiet_shows (ticked p).0.parts.memory (ticked p).1 q in
    let first : HasMoved (running p) (running (ticked p).0.parts) (logs c s r) (logs c s r) true [] 1 = rw (← runs) (moved_tick p c s s r true (rw silent (appends_none s))) in
    record {
      ticks = 1 + more.ticks;
      count = ap (λ r. r.0) same ∙ more.count ∙ omega arith;
      moved = rw same (moved_add (running p) (running (ticked p).0.parts) (ran (k + 1) n (ticked p).0.parts).1 (logs c s r) (logs c s r) (logs c s' r) whole [] [] 1 more.ticks first more.moved);
    }

by_tick : (n k : ℕ) (p : Whole) (c : List DeviceCall) (s s' : Option (List ℕ)) (r : List (Option ℕ)) (whole : Bool) → Sends whole s s' (last_bytes (ran k (suc n) p))
    → (Sends whole s s' (last_bytes (ran (k + 1) n (ticked p).0.parts)) → RanSo n (k + 1) (ticked p).0.parts c s s' r whole)
    → (b : Bool) → is_quiet (ticked p).1 ≡ b → RanSo (suc n) k p c s s' r whole
by_tick n k p c s s' r whole h more b q = grind (arith, ran_loud, moved_tick, by_quiet, ran_on)

ran_so : (n k : ℕ) (p : Whole) (c : List DeviceCall) (s s' : Option (List ℕ)) (r : List (Option ℕ)) (whole : Bool) → Sends whole s s' (last_bytes (ran k n p)) → RanSo n k p c s s' r whole
unfolding ran shown_bytes
ran_so zero k p c s s' r whole h = record { ticks = 0; count = omega arith; moved = moved_none (running p) c s s' r whole (none_sent whole s s' h) }
ran_so (suc n) k p c s s' r whole h = by_tick n k p c s s' r whole h (ran_so n (k + 1) (ticked p).0.parts c s s' r whole) (is_quiet (ticked p).1) refl

-- ticks that a call makes out of those that are left, of which all that they show is sent, or a front
moved_sent : (whole : Bool) (left count : ℕ) (s t : State) (act : Act) (c : List DeviceCall) (o o' : Option (List ℕ)) (r : List (Option ℕ)) → s ≡ running s.parts → (count, t, act) ≡ ran 0 count s.parts → count ≤ left → Sends whole o o' (shown_bytes t.parts.memory act.shown)
    → HasMoved s t (logs c o r) (logs c o' r) whole [] (left - (left - count))
moved_sent whole left count s t act c o o' r e is most h =
    let m : RanSo count 0 s.parts c o o' r whole = ran_so count 0 s.parts c o o' r whole (subst (λ (v : ℕ × State × Act). Sends whole o o' (last_bytes v)) is h) in
    let all : (ran 0 count s.parts).0 ≡ count = sym (ap (λ (v : ℕ × State × Act). v.0) is) in
    let same : m.ticks ≡ left - (left - count) = omega (arith, all, m.count, most) in
    rw (e, ap (λ (v : ℕ × State × Act). v.1) is) (subst (λ n. HasMoved (running s.parts) (ran 0 count s.parts).1 (logs c o r) (logs c o' r) whole [] n) same m.moved)

pub moved_went : (left count : ℕ) (s t : State) (act : Act) (c : List DeviceCall) (o o' : Option (List ℕ)) (r : List (Option ℕ)) → s ≡ running s.parts → (count, t, act) ≡ ran 0 count s.parts → count ≤ left → Appends o o' (shown_bytes t.parts.memory act.shown)
    → HasMoved s t (logs c o r) (logs c o' r) true [] (left - (left - count))
moved_went = moved_sent true

pub moved_went_part : (left count : ℕ) (s t : State) (act : Act) (c : List DeviceCall) (o o' : Option (List ℕ)) (r : List (Option ℕ)) → s ≡ running s.parts → (count, t, act) ≡ ran 0 count s.parts → count ≤ left → AppendsPart o o' (shown_bytes t.parts.memory act.shown)
    → HasMoved s t (logs c o r) (logs c o' r) false [] (left - (left - count))
moved_went_part = moved_sent false

-- if moves are accepted, no more answers are made than ticks, but one if a request waited
pub few_answers : (ts : List Turn) (s : State) → AreAccepted s ts → answers_in ts + waiting (after s ts).wait ≤ ticks_in ts + waiting s.wait
unfolding after AreAccepted
few_answers [] s h = omega arith
few_answers (Tick ∷ ts) s h = omega (arith, one_waits, sum_by-cons, few_answers ts (after_turn s Tick) h.1)
few_answers (Answer reply ∷ ts) s h =
    let rest = few_answers ts (after_turn s (Answer reply)) h.1 in
    let free : waiting (after_turn s (Answer reply)).wait ≡ 0 = ap waiting (answer_none s reply) in
    omega (arith, rest, free, asked_waits s reply h.0.2, sum_by-cons (λ t. if is_tick t then 1 else 0) (Answer reply) ts, sum_by-cons (λ t. if is_reply t then 1 else 0) (Answer reply) ts)
few_answers (Enter word ∷ ts) s h = grind (arith, sum_by-cons, few_answers ts (after_turn s (Enter word)) h.1)

-- moves that are no ticks
pub moved_still : (a b : State) (f g : Logs) (whole : Bool) (left : ℕ) → HasMoved a b f g whole [] 0 → HasMoved a b f g whole [] (left - left)
moved_still a b f g whole left h = let none : left - left ≡ 0 = omega arith in rw none h

-- a writer that was sent nothing more
unfoldable pub moved_kept : (a b : State) (c d : List DeviceCall) (o o' o'' : Option (List ℕ)) (r r' : List (Option ℕ)) (words : List ℕ) (ticks : ℕ) → Keeps o' o'' → HasMoved a b (logs c o r) (logs d o' r') true words ticks → HasMoved a b (logs c o r) (logs d o'' r') true words ticks
moved_kept a b c d o o' o'' r r' words ticks k h = grind arith

-- less is said if not all was to be sent
unfoldable pub moved_so : (a b : State) (f g : Logs) (whole : Bool) (words : List ℕ) (ticks : ℕ) → HasMoved a b f g true words ticks → HasMoved a b f g whole words ticks
moved_so a b f g whole words ticks h = record { turns = h.turns; accepted = h.accepted; state_is = h.state_is; calls_are = h.calls_are; front = h.front; back = h.back; shown_is = h.shown_is; sent_is = h.sent_is; all_sent = λ q. h.all_sent refl; given = h.given; reads_are = h.reads_are; are_given = h.are_given; words_are = h.words_are; ticks_are = h.ticks_are }

-- the same, of rounds whose result is known
pub moved_as : {a b : State} {f g : Logs} {words : List ℕ} {ticks : ℕ} (whole whole' : Bool) → whole ≡ whole' → HasMoved a b f g whole words ticks → HasMoved a b f g whole' words ticks
moved_as {a} {b} {f} {g} {words} {ticks} whole whole' e h = subst (λ w. HasMoved a b f g w words ticks) e h
