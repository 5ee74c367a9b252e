-- A stretch of ticks is as many rounds.
use Rattle.std.proofs.Common.{◌≡◌, ℕ, zero, suc, ◌+◌, ◌-◌, ◌<◌, ◌≤◌, ◌++◌, List, Bool, true, false, None, refl, sym, ap, ◌∙◌, append-nil, append_assoc, arith, []}
use Rattle.machine_parts.specs.Whole.{Whole}
use Rattle.machine.specs.declared.act.Act.{Act}
use Rattle.machine.specs.State.{State}
use Rattle.machine.specs.Tick.{ran, ticked, is_quiet, running, quiet}
use Rattle.machine.specs.Answer.{asked_by}
use Rattle.inner_interpreter.specs.Moves.{shown_bytes}
use Rattle.machine.specs.declared.extent.Extent.{Extent}
use Rattle.inner_interpreter.specs.Runs.{World, round, round_by, rounds, stops, stop_by, next_by, tick_round}
use Rattle.machine.specs.Met.{is_met, AreUnmet}
use Rattle.inner_interpreter.specs.Tracing.{AddsLine, traced_line, trace}
use Rattle.inner_interpreter.proofs.Quiet.{ticked_runs, quiet_shows}
use Rattle.machine.proofs.Ran.{ran_quiet, ran_loud}

-- rounds add up
pub rounds_add : (n m : ℕ) (w : World) → rounds (n + m) w ≡ rounds n (rounds m w)
unfolding rounds
rounds_add zero m w = let e : 0 + m ≡ m = omega arith in ap (λ k. rounds k w) e
rounds_add (suc n) m w =
    let e : suc n + m ≡ suc (n + m) = omega arith in
    ap (λ k. rounds k w) e ∙ ap (λ v. next_by v (stops v)) (rounds_add n m w)

goes_on : (left m : ℕ) → left ≡ suc m → stop_by None left ≡ None
goes_on left m e = rw e refl

-- if the machine has not halted and ticks are left, the run goes on
pub runs_on : (w : World) → w.state.halt ≡ None → 0 < w.left → stops w ≡ None
runs_on w h l = grind arith

-- and a round is made
pub one_round : (w : World) → w.state.halt ≡ None → 0 < w.left → rounds 1 w ≡ round w
unfolding rounds
one_round w h l = ap (next_by w) (runs_on w h l)

pub round_tick : (w : World) → w.state.wait ≡ None → round w ≡ tick_round w
unfolding round
round_tick w e = ap (λ o. round_by w (asked_by o)) e

-- the world j ticks further on, in this state, after what the last of them showed
abbrev pub behind : World → ℕ → State → Act → World
behind w j t act =
    record { state = t; typed = w.typed; disk = w.disk; shown = w.shown ++ shown_bytes t.parts.memory act.shown; left = w.left - j }

same_world : (w : World) (t : State) (shown : List ℕ) (left : ℕ) → t ≡ w.state → shown ≡ w.shown → left ≡ w.left → w ≡ record { state = t; typed = w.typed; disk = w.disk; shown = shown; left = left }
same_world w t shown left e f g = rw (e, f, g) refl

no_tick : (w : World) (s : Whole) → w.state ≡ running s → w ≡ behind w 0 (running s) quiet
unfolding shown_bytes
no_tick w s e = same_world w (running s) _ _ (sym e) (append-nil w.shown) (omega arith)

first_tick : (w : World) (s : Whole) → w.state ≡ running s → 0 < w.left → rounds 1 w ≡ behind w 1 (ticked s).0 (ticked s).1
first_tick w s e l = grind (arith, one_round, round_tick)

-- a quiet tick and j more are j + 1 ticks
behind_quiet : (w : World) (j : ℕ) (s : Whole) (t : State) (act : Act) → is_quiet (ticked s).1 ≡ true
    → behind (behind w 1 (ticked s).0 (ticked s).1) j t act ≡ behind w (j + 1) t act
behind_quiet w j s t act q = grind (arith, quiet_shows, append-nil)

-- n ticks at most are some rounds
abbrev pub IsStretched : World → ℕ → ℕ × State × Act → Type 0
IsStretched w k r = (j : ℕ) × (r.0 ≡ k + j) × (rounds j w ≡ behind w j r.1 r.2)

by_tick : (n k : ℕ) (w : World) (s : Whole) → w.state ≡ running s → suc n ≤ w.left
    → ((ticked s).0 ≡ running (ticked s).0.parts → n ≤ w.left - 1 → IsStretched (behind w 1 (ticked s).0 (ticked s).1) (k + 1) (ran (k + 1) n (ticked s).0.parts))
    → (b : Bool) → is_quiet (ticked s).1 ≡ b → IsStretched w k (ran k (suc n) s)
by_tick n k w s e h more b q = grind (arith, ran_loud, first_tick, ticked_runs, ran_quiet, rounds_add, behind_quiet)

pub stretched : (n k : ℕ) (w : World) (s : Whole) → w.state ≡ running s → n ≤ w.left → IsStretched w k (ran k n s)
unfolding ran rounds
stretched zero k w s e h = (0, omega arith, no_tick w s e)
stretched (suc n) k w s e h = by_tick n k w s e h (stretched n (k + 1) (behind w 1 (ticked s).0 (ticked s).1) (ticked s).0.parts) (is_quiet (ticked s).1) refl

-- except its last tick a stretch shows nothing
silent_by : (j k : ℕ) (w : World) (s : Whole) → w.state ≡ running s → suc (suc j) ≤ w.left → (ran k (suc (suc j)) s).0 ≡ k + suc (suc j)
    → ((ticked s).0 ≡ running (ticked s).0.parts → (ran (k + 1) (suc j) (ticked s).0.parts).0 ≡ k + 1 + suc j
    → (rounds j (behind w 1 (ticked s).0 (ticked s).1)).shown ≡ (behind w 1 (ticked s).0 (ticked s).1).shown)
    → (b : Bool) → is_quiet (ticked s).1 ≡ b → (rounds (suc j) w).shown ≡ w.shown
silent_by j k w s same left all rest b q = grind (arith, ran_quiet, rounds_add, first_tick, quiet_shows, append-nil, ticked_runs, ran_loud)

pub silent_before : (j k : ℕ) (w : World) (s : Whole) → w.state ≡ running s → suc j ≤ w.left → (ran k (suc j) s).0 ≡ k + suc j → (rounds j w).shown ≡ w.shown
unfolding rounds
silent_before zero k w s same left all = refl
silent_before (suc j) k w s same left all =
    silent_by j k w s same left all
    (λ runs count. silent_before j (k + 1) (behind w 1 (ticked s).0 (ticked s).1) (ticked s).0.parts runs (omega (arith, left)) count)
    (is_quiet (ticked s).1) refl

pub trace_add : (e : Extent) (line : Whole → List ℕ) (n m : ℕ) (w : World) → trace e line (n + m) w ≡ trace e line m w ++ trace e line n (rounds m w)
unfolding trace
trace_add e line zero m w = let none : 0 + m ≡ m = omega arith in ap (λ k. trace e line k w) none ∙ sym (append-nil (trace e line m w))
trace_add e line (suc n) m w =
    let more : suc n + m ≡ suc (n + m) = omega arith in
    ap (λ k. trace e line k w) more
    ∙ ap (λ ls. ls ++ traced_line e line (rounds (n + m) w)) (trace_add e line n m w)
    ∙ ap (λ v. (trace e line m w ++ trace e line n (rounds m w)) ++ traced_line e line v) (rounds_add n m w)
    ∙ append_assoc (trace e line m w) (trace e line n (rounds m w)) (traced_line e line (rounds n (rounds m w)))

trace_one : (e : Extent) (line : Whole → List ℕ) (w : World) → trace e line 1 w ≡ traced_line e line w
unfolding trace rounds
trace_one e line w = refl

pub adds_one : (e : Extent) (w : World) → AddsLine e 1 w
adds_one e w = λ line. trace_one e line w

-- nothing is traced if no token of the extent comes next
line_unmet : (e : Extent) (line : Whole → List ℕ) (w : World) (s : Whole) → w.state ≡ running s → is_met e s ≡ false → traced_line e line w ≡ []
unfolding traced_line
line_unmet e line w s same unmet = grind arith

by_quiet : (e : Extent) (line : Whole → List ℕ) (j k : ℕ) (w : World) (s : Whole) → w.state ≡ running s → suc j ≤ w.left → (ran k (suc j) s).0 ≡ k + suc j → AreUnmet e j (ticked s).0.parts
    → ((ticked s).0 ≡ running (ticked s).0.parts → (ran (k + 1) j (ticked s).0.parts).0 ≡ k + 1 + j → trace e line j (behind w 1 (ticked s).0 (ticked s).1) ≡ [])
    → (b : Bool) → is_quiet (ticked s).1 ≡ b → trace e line j (rounds 1 w) ≡ []
unfolding trace
by_quiet e line j k w s same left all unmet rest b q = grind (arith, ran_quiet, first_tick, ticked_runs, ran_loud)

untraced : (e : Extent) (line : Whole → List ℕ) (j k : ℕ) (w : World) (s : Whole) → w.state ≡ running s → j ≤ w.left → (ran k j s).0 ≡ k + j → AreUnmet e j s → trace e line j w ≡ []
unfolding trace AreUnmet
untraced e line zero k w s same left all unmet = refl
untraced e line (suc j) k w s same left all unmet =
    let one : suc j ≡ j + 1 = omega arith in
    let first : trace e line 1 w ≡ [] = trace_one e line w ∙ line_unmet e line w s same unmet.0 in
    let rest : trace e line j (rounds 1 w) ≡ [] =
    by_quiet e line j k w s same left all unmet.1
    (λ runs count. untraced e line j (k + 1) (behind w 1 (ticked s).0 (ticked s).1) (ticked s).0.parts runs (omega (arith, left)) count unmet.1)
    (is_quiet (ticked s).1) refl in
    ap (λ i. trace e line i w) one ∙ trace_add e line j 1 w ∙ ap (λ ls. ls ++ trace e line j (rounds 1 w)) first ∙ rest

-- a stretch of ticks of which only the first may be met
pub adds_line : (e : Extent) (m : ℕ) (w : World) (s : Whole) → w.state ≡ running s → m ≤ w.left → 0 < m → (ran 0 m s).0 ≡ m → AreUnmet e (m - 1) (ticked s).0.parts → AddsLine e m w
adds_line e m w s same left some all unmet = λ line.
    let one : m ≡ (m - 1) + 1 = omega (arith, some) in
    let more : m ≡ suc (m - 1) = omega (arith, some) in
    let count : (ran 0 (suc (m - 1)) s).0 ≡ 0 + suc (m - 1) = ap (λ i. (ran 0 i s).0) (sym more) ∙ all ∙ more ∙ omega arith in
    let fits : suc (m - 1) ≤ w.left = omega (arith, left, some) in
    let later : trace e line (m - 1) (rounds 1 w) ≡ [] =
    by_quiet e line (m - 1) 0 w s same fits count unmet
    (λ runs rest. untraced e line (m - 1) 1 (behind w 1 (ticked s).0 (ticked s).1) (ticked s).0.parts runs (omega (arith, fits)) (rest ∙ omega arith) unmet)
    (is_quiet (ticked s).1) refl in
    ap (λ i. trace e line i w) one ∙ trace_add e line (m - 1) 1 w ∙ ap (λ ls. trace e line 1 w ++ ls) later ∙ append-nil (trace e line 1 w) ∙ trace_one e line w
