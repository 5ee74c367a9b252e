-- What a host sees of its calls is what the moves of a list leave.
use Rattle.std.proofs.Common.{◌≡◌, ℕ, zero, suc, ◌+◌, ◌-◌, List, [], ◌∷◌, ◌++◌, Option, Some, None, Bool, true, false, Ok, Err, refl, sym, ap, subst, ◌∙◌, arith, replicate}
use Rattle.machine_parts.specs.Whole.{Whole}
use Rattle.machine.specs.declared.act.Act.{Act}
use Rattle.machine.specs.declared.act.Cause.{Cause}
use Rattle.machine.specs.declared.act.Event.{Event}
use Rattle.machine.specs.declared.act.Shown.{Shown}
use Rattle.machine.specs.declared.act.Refused.{Refused}
use Rattle.machine.specs.declared.act.Refused.TheVariants.{Halted, NotAsked}
use Rattle.machine.specs.State.{State}
use Rattle.machine.specs.Tick.{Runs, running, is_quiet, ran, ticked, IsRefused}
use Rattle.machine.specs.Answer.{asked_by, is_answer}
use Rattle.inner_interpreter.specs.Moves.{Turn, Tick, Answer, shown_bytes}
use Rattle.inner_interpreter.proofs.HostCalls.{Call, Ticked, Answered, ManyTicked, Ensures, moves_of, seen_bytes, seen_events}
use Rattle.inner_interpreter.specs.Histories.{acted, made_after, made, takes, told_event}
use Rattle.inner_interpreter.proofs.Quiet.{ticked_runs, quiet_shows}
use Rattle.machine.proofs.Ran.{ran_quiet, ran_loud}

pub taken_move : (s : State) (t : Turn) (ts : List Turn) → takes s t ≡ true → made s (t ∷ ts) ≡ made_after (shown_bytes (acted s t).0.parts.memory (acted s t).1.shown) (told_event (acted s t).1.event) (made (acted s t).0 ts)
unfolding made
taken_move s t ts h = rw h refl

pub left_move : (s : State) (t : Turn) (ts : List Turn) → takes s t ≡ false → made s (t ∷ ts) ≡ made s ts
unfolding made
left_move s t ts h = rw h refl

pub tick_taken : (s : State) → Runs s → takes s Tick ≡ true
tick_taken s h = rw (h.0, h.1) refl

pub tick_left : (s : State) (t : State) (refused : Refused) → IsRefused s t refused → takes s Tick ≡ false
tick_left s t refused h = grind arith

-- a refused move leaves the state
pub stays_refused : (s t : State) (refused : Refused) → IsRefused s t refused → t ≡ s
stays_refused s t refused h = grind arith

-- a quiet act says of nothing
at_quiet : (act : Act) (shown : Shown) (event : Event) → act.shown ≡ shown → act.event ≡ event → is_quiet act ≡ true → told_event act.event ≡ []
at_quiet act shown event e f q = grind arith

quiet_tells : (act : Act) → is_quiet act ≡ true → told_event act.event ≡ []
quiet_tells act q = at_quiet act act.shown act.event refl refl q

-- so many ticks, one after another
record Many (n k : ℕ) (p : Whole) (ts : List Turn) : Type 0 where
  ticks : ℕ
  count : (ran k n p).0 ≡ k + ticks
  leave : made (running p) (replicate ticks Tick ++ ts) ≡ made_after (shown_bytes (ran k n p).1.parts.memory (ran k n p).2.shown) (told_event (ran k n p).2.event) (made (ran k n p).1 ts)

by_tick : (n k : ℕ) (p : Whole) (ts : List Turn) → Many n (k + 1) (ticked p).0.parts ts → (b : Bool) → is_quiet (ticked p).1 ≡ b → Many (suc n) k p ts
by_tick n k p ts more false q =
    let loud : ran k (suc n) p ≡ (k + 1, (ticked p).0, (ticked p).1) = ran_loud k (suc n) p (omega arith) q in
    record { ticks = 1; count = ap (λ r. r.0) loud; leave = rw loud (taken_move (running p) Tick ts refl) }
by_tick n k p ts more true q =
    let less : suc n - 1 ≡ n = omega arith in
    let same : ran k (suc n) p ≡ ran (k + 1) n (ticked p).0.parts = ran_quiet k (suc n) p (omega arith) q ∙ ap (λ i. ran (k + 1) i (ticked p).0.parts) less in
    let runs : (ticked p).0 ≡ running (ticked p).0.parts = ticked_runs p q in
    let nothing : shown_bytes (ticked p).0.parts.memory (ticked p).1.shown ≡ [] = quiet_shows (ticked p).0.parts.memory (ticked p).1 q in
    let first : made (running p) (Tick ∷ (replicate more.ticks Tick ++ ts)) ≡ made (ticked p).0 (replicate more.ticks Tick ++ ts) =
    taken_move (running p) Tick (replicate more.ticks Tick ++ ts) refl
    ∙ ap (λ bs. made_after bs (told_event (ticked p).1.event) (made (ticked p).0 (replicate more.ticks Tick ++ ts))) nothing
    ∙ ap (λ es. made_after [] es (made (ticked p).0 (replicate more.ticks Tick ++ ts))) (quiet_tells (ticked p).1 q) in
    record {
      ticks = suc more.ticks;
      count = ap (λ r. r.0) same ∙ more.count ∙ omega arith;
      leave = rw same (first ∙ ap (λ s. made s (replicate more.ticks Tick ++ ts)) runs ∙ more.leave);
    }

many : (n k : ℕ) (p : Whole) (ts : List Turn) → Many n k p ts
unfolding ran shown_bytes
many zero k p ts = record { ticks = 0; count = omega arith; leave = refl }
many (suc n) k p ts = by_tick n k p ts (many n (k + 1) (ticked p).0.parts ts) (is_quiet (ticked p).1) refl

runs_running : (s : State) → Runs s → s ≡ running s.parts
runs_running s h = rw (h.0, h.1) refl

-- what a call's host sees is what its moves leave
pub one_call : (s t : State) (c : Call) (ts : List Turn) → Ensures s c t → made s (moves_of c ++ ts) ≡ made_after (seen_bytes t c) (seen_events c) (made t ts)
one_call s t (Ticked (Ok act)) ts h =
    let P : State × Act → Type 0 = λ x. made s (Tick ∷ ts) ≡ made_after (shown_bytes x.0.parts.memory x.1.shown) (told_event x.1.event) (made x.0 ts) in
    subst P (sym h.1) (taken_move s Tick ts (tick_taken s h.0))
one_call s t (Ticked (Err refused)) ts h = left_move s Tick ts (tick_left s t refused h) ∙ ap (λ u. made u ts) (sym (stays_refused s t refused h))
one_call s t (Answered reply (Ok act)) ts h = by_halt s.halt refl (is_answer (asked_by s.wait) reply) refl where
  by_halt : (o : Option Cause) → s.halt ≡ o → (b : Bool) → is_answer (asked_by s.wait) reply ≡ b → made s (Answer reply ∷ ts) ≡ made_after (shown_bytes t.parts.memory act.shown) (told_event act.event) (made t ts)
  by_halt (Some c) q b f = let no : Ok act ≡ Err Halted = h.halted (rw q refl) in cc
  by_halt None q false f = let no : Ok act ≡ Err NotAsked = h.not_asked q f in cc
  by_halt None q true f =
      let P : State × Act → Type 0 = λ x. made s (Answer reply ∷ ts) ≡ made_after (shown_bytes x.0.parts.memory x.1.shown) (told_event x.1.event) (made x.0 ts) in
      subst P (sym (h.done q f)) (taken_move s (Answer reply) ts (rw (q, f) refl))
one_call s t (Answered reply (Err refused)) ts h = by_halt s.halt refl (is_answer (asked_by s.wait) reply) refl where
  same : made s ts ≡ made t ts
  same = ap (λ u. made u ts) (sym h.stays)

  by_halt : (o : Option Cause) → s.halt ≡ o → (b : Bool) → is_answer (asked_by s.wait) reply ≡ b → made s (Answer reply ∷ ts) ≡ made_after [] [] (made t ts)
  by_halt (Some c) q b f = left_move s (Answer reply) ts (rw q refl) ∙ same
  by_halt None q false f = left_move s (Answer reply) ts (rw (q, f) refl) ∙ same
  by_halt None q true f = absurd (h.done q f)
one_call s t (ManyTicked n (Ok r)) ts h =
    let m : Many n 0 s.parts ts = many n 0 s.parts ts in
    let P : ℕ × State × Act → Type 0 = λ x. made s (replicate x.0 Tick ++ ts) ≡ made_after (shown_bytes x.1.parts.memory x.2.shown) (told_event x.2.event) (made x.1 ts) in
    let count : (ran 0 n s.parts).0 ≡ m.ticks = m.count ∙ omega arith in
    subst P (sym h.1)
    (ap (λ (k : ℕ). made s (replicate k Tick ++ ts)) count
    ∙ ap (λ u. made u (replicate m.ticks Tick ++ ts)) (runs_running s h.0) ∙ m.leave)
one_call s t (ManyTicked n (Err refused)) ts h = ap (λ u. made u ts) (sym (stays_refused s t refused h))
