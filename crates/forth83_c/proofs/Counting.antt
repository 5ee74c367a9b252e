-- Faults that rounds come to, and the marks of those that begin where a called word has returned.
use Rattle.std.proofs.Common.{rules, ◌≡◌, ℕ, zero, suc, ◌+◌, ◌-◌, ◌<◌, ◌≤◌, [], Bool, true, false, None, Some, refl, sym, ap, subst, ◌∙◌, arith}
use Rattle.machine_parts.specs.Whole.{Whole}
use Rattle.machine_parts.specs.declared.parts.Request.{Request}
use Rattle.machine.specs.declared.act.Act.{Act}
use Rattle.machine.specs.declared.act.Event.{Event}
use Rattle.machine.specs.declared.act.Shown.{Shown}
use Rattle.machine.specs.Answer.{asked_by}
use Rattle.machine.specs.Met.{is_met, AreUnmet}
use Rattle.machine.specs.State.{State}
use Rattle.machine.specs.Onward.{ran_from}
use Rattle.machine.specs.Tick.{ran, ticked, is_quiet, running}
use Rattle.machine.proofs.Ran.{from_quiet, from_loud}
use Rattle.inner_interpreter.specs.Runs.{World, rounds, stops}
use Rattle.inner_interpreter.specs.Tracing.{trace, traced_line}
use Rattle.inner_interpreter.proofs.Quiet.{ticked_runs}
use Rattle.inner_interpreter.proofs.Running.{runs_running}
use Rattle.inner_interpreter.proofs.Stretched.{adds_line, behind, one_round, round_tick, rounds_add, runs_on}
use Rattle.forth83_c.specs.declared.record.Forth83Faults.{Forth83Faults}
use Rattle.forth83_c.specs.Driven.{at_0, counted, counted_by, event_by, faults_of, is_returned, mark}

pub faults_add : (n m : ℕ) (w : World) (f : Forth83Faults) → faults_of (n + m) w f ≡ faults_of n (rounds m w) (faults_of m w f)
unfolding faults_of
faults_add zero m w f = let e : 0 + m ≡ m = omega arith in ap (λ k. faults_of k w f) e
faults_add (suc n) m w f =
    let e : suc n + m ≡ suc (n + m) = omega arith in
    ap (λ k. faults_of k w f) e
    ∙ ap (λ v. counted_by v (stops v) (faults_of (n + m) w f)) (rounds_add n m w)
    ∙ ap (λ g. counted_by (rounds n (rounds m w)) (stops (rounds n (rounds m w))) g) (faults_add n m w f)

one_fault : (w : World) (f : Forth83Faults) → w.state.halt ≡ None → 0 < w.left → faults_of 1 w f ≡ counted w.state.parts.ip (event_by w (asked_by w.state.wait)) f
unfolding faults_of rounds
one_fault w f h l = ap (λ s. counted_by w s f) (runs_on w h l)

-- the round of an answer
pub answer_fault : (w : World) (f : Forth83Faults) (r : Request) → w.state.halt ≡ None → 0 < w.left → asked_by w.state.wait ≡ Some r → faults_of 1 w f ≡ counted w.state.parts.ip (event_by w (Some r)) f
answer_fault w f r h l e = one_fault w f h l ∙ ap (λ o. counted w.state.parts.ip (event_by w o) f) e

first_fault : (w : World) (s : Whole) (f : Forth83Faults) → w.state ≡ running s → 0 < w.left → faults_of 1 w f ≡ counted s.ip (ticked s).1.event f
first_fault w s f e l = grind (arith, one_fault)

first_tick : (w : World) (s : Whole) → w.state ≡ running s → 0 < w.left → rounds 1 w ≡ behind w 1 (ticked s).0 (ticked s).1
first_tick w s e l = grind (arith, one_round, round_tick)

-- a quiet act is no fault
at_quiet : (ip : ℕ) (act : Act) (shown : Shown) (event : Event) (f : Forth83Faults) → act.shown ≡ shown → act.event ≡ event → is_quiet act ≡ true → counted ip act.event f ≡ f
at_quiet ip act shown event f e g q = search rules

quiet_counts : (ip : ℕ) (act : Act) (f : Forth83Faults) → is_quiet act ≡ true → counted ip act.event f ≡ f
quiet_counts ip act f q = at_quiet ip act act.shown act.event f refl refl q

-- of a stretch of ticks only the last may be a fault
abbrev IsCounted : World → ℕ → Forth83Faults → ℕ × ℕ × State × Act → Type 0
IsCounted w k f r = (j : ℕ) × (r.1 ≡ k + j) × (faults_of j w f ≡ counted r.0 r.3.event f)

by_quiet : (n k : ℕ) (w : World) (s : Whole) (f : Forth83Faults) → w.state ≡ running s → 0 < w.left → is_quiet (ticked s).1 ≡ true
    → IsCounted (behind w 1 (ticked s).0 (ticked s).1) (k + 1) f (ran_from (k + 1) n (ticked s).0.parts) → IsCounted w k f (ran_from k (suc n) s)
by_quiet n k w s f e l q h =
    let more : ran_from k (suc n) s ≡ ran_from (k + 1) n (ticked s).0.parts = grind (arith, from_quiet) in
    let one : faults_of 1 w f ≡ f = first_fault w s f e l ∙ quiet_counts s.ip (ticked s).1 f q in
    let sum : faults_of (h.0 + 1) w f ≡ faults_of h.0 (behind w 1 (ticked s).0 (ticked s).1) f =
    faults_add h.0 1 w f ∙ ap (λ g. faults_of h.0 (rounds 1 w) g) one ∙ ap (λ v. faults_of h.0 v f) (first_tick w s e l) in
    (h.0 + 1, ap (λ (r : ℕ × ℕ × State × Act). r.1) more ∙ h.1 ∙ omega arith, sum ∙ h.2 ∙ ap (λ (r : ℕ × ℕ × State × Act). counted r.0 r.3.event f) (sym more))

by_loud : (n k : ℕ) (w : World) (s : Whole) (f : Forth83Faults) → w.state ≡ running s → 0 < w.left → is_quiet (ticked s).1 ≡ false → IsCounted w k f (ran_from k (suc n) s)
by_loud n k w s f e l q =
    let last : ran_from k (suc n) s ≡ (s.ip, k + 1, (ticked s).0, (ticked s).1) = grind (arith, from_loud) in
    (1, ap (λ (r : ℕ × ℕ × State × Act). r.1) last, first_fault w s f e l ∙ ap (λ (r : ℕ × ℕ × State × Act). counted r.0 r.3.event f) (sym last))

by_tick : (n k : ℕ) (w : World) (s : Whole) (f : Forth83Faults) → w.state ≡ running s → suc n ≤ w.left
    → ((ticked s).0 ≡ running (ticked s).0.parts → IsCounted (behind w 1 (ticked s).0 (ticked s).1) (k + 1) f (ran_from (k + 1) n (ticked s).0.parts))
    → (b : Bool) → is_quiet (ticked s).1 ≡ b → IsCounted w k f (ran_from k (suc n) s)
by_tick n k w s f e h more true q = by_quiet n k w s f e (omega (arith, h)) q (more (ticked_runs s q))
by_tick n k w s f e h more false q = by_loud n k w s f e (omega (arith, h)) q

pub stretch_counted : (n k : ℕ) (w : World) (s : Whole) (f : Forth83Faults) → w.state ≡ running s → n ≤ w.left → IsCounted w k f (ran_from k n s)
unfolding ran_from faults_of
stretch_counted zero k w s f e h = (0, omega arith, refl)
stretch_counted (suc n) k w s f e h =
    by_tick n k w s f e h
    (λ runs. stretch_counted n (k + 1) (behind w 1 (ticked s).0 (ticked s).1) (ticked s).0.parts f runs (omega (arith, h)))
    (is_quiet (ticked s).1) refl

-- there is no mark if no called word has returned
pub unmarked : (w : World) → is_returned w.state ≡ false → traced_line at_0 mark w ≡ []
unfolding traced_line is_met is_returned
unmarked w e = grind arith

-- nor if a request waits
pub unmarked_wait : (w : World) (r : Request) → asked_by w.state.wait ≡ Some r → traced_line at_0 mark w ≡ []
unfolding traced_line
unmarked_wait w r e = grind arith

-- a stretch of ticks that begins elsewhere, and ends before a token at address 0
pub unpassed : (s s' : State) (n left : ℕ) (act : Act) → s.halt ≡ None → s.wait ≡ None → is_returned s ≡ false → 0 < n → n ≤ left
    → (n, s', act) ≡ ran 0 n s.parts → AreUnmet at_0 (n - 1) (ticked s.parts).0.parts
    → (w : World) → w.state ≡ s → w.left ≡ left → trace at_0 mark n w ≡ []
unpassed s s' n left act h q not some most e unmet w same all =
    adds_line at_0 n w s.parts (same ∙ runs_running s h q) (omega (arith, most, all)) some (ap (λ (p : ℕ × State × Act). p.0) (sym e)) unmet mark
    ∙ unmarked w (subst (λ (t : State). is_returned t ≡ false) (sym same) not)
