-- Rounds that a call makes.
use Rattle.std.proofs.Common.{◌≡◌, ℕ, ◌+◌, ◌-◌, ◌<◌, ◌≤◌, ◌++◌, List, [], Bool, true, None, Some, refl, sym, ap, ◌∙◌, arith}
use Rattle.block_buffers.specs.Disks.{Disk}
use Rattle.machine_parts.specs.declared.parts.Request.{Request}
use Rattle.machine.specs.declared.act.Act.{Act}
use Rattle.machine.specs.Answer.{Reply, answer_of, asked_by}
use Rattle.inner_interpreter.specs.Moves.{shown_bytes, answer_move}
use Rattle.inner_interpreter.specs.Runs.{World, Served, served, round, round_by, rounds}
use Rattle.inner_interpreter.specs.Tracing.{trace}
use Rattle.machine.specs.State.{State}
use Rattle.machine.specs.Onward.{ran_from}
use Rattle.machine.specs.Tick.{ran}
use Rattle.machine.proofs.Ran.{from_ran}
use Rattle.inner_interpreter.proofs.Running.{runs_running}
use Rattle.inner_interpreter.proofs.Stretched.{adds_one, rounds_add, one_round, stretched, behind, trace_add}
use Rattle.forth83_c.specs.declared.record.Forth83Faults.{Forth83Faults}
use Rattle.forth83_c.specs.Driven.{at_0, begun, counted, faults_of, mark, IsDriven, DrivesOn}
use Rattle.forth83_c.proofs.Counting.{answer_fault, faults_add, stretch_counted, unmarked_wait}

pub none_driven : (calling : Bool) (f : Forth83Faults) (s : State) (typed : List ℕ) (limit : ℕ) → IsDriven calling f s typed limit f s typed [] limit
unfolding rounds faults_of trace
none_driven calling f s typed limit = record { count = 0; rounds_are = λ disk more. refl; faults_are = λ disk more. refl; unreturned = λ yes disk more. refl }

-- the marks of more rounds
pub marks_on : (n m : ℕ) (w here : World) → rounds m w ≡ here → trace at_0 mark m w ≡ [] → trace at_0 mark n here ≡ [] → trace at_0 mark (n + m) w ≡ []
marks_on n m w here e first second =
    trace_add at_0 mark n m w ∙ ap (λ ls. ls ++ trace at_0 mark n (rounds m w)) first ∙ ap (trace at_0 mark n) e ∙ second

-- a stretch of ticks
pub ticked_on : (calling : Bool) (f : Forth83Faults) (s s' : State) (unread shown : List ℕ) (left n from : ℕ) (act : Act)
    → s.halt ≡ None → s.wait ≡ None → n ≤ left → (n, s', act) ≡ ran 0 n s.parts → from ≡ (ran_from 0 n s.parts).0
    → (calling ≡ true → (w : World) → w.state ≡ s → w.left ≡ left → trace at_0 mark n w ≡ [])
    → DrivesOn calling f s unread shown left (counted from act.event f) s' unread (shown ++ shown_bytes s'.parts.memory act.shown) (left - n)
ticked_on calling f s s' unread shown left n from act h q fits e at unpassed before old typed limit d = record {
  count = n + d.count;
  rounds_are = λ disk more.
      let here : World = record { state = s; typed = unread ++ more; disk = disk; shown = shown; left = left } in
      let made = stretched n 0 here s.parts (runs_running s h q) fits in
      let told : n ≡ (ran 0 n s.parts).0 = ap (λ (p : ℕ × State × Act). p.0) e in
      let j : made.0 ≡ n = omega (arith, made.1, told) in
      rounds_add n d.count (begun old (typed ++ more) disk limit)
      ∙ ap (rounds n) (d.rounds_are disk more)
      ∙ ap (λ k. rounds k here) (sym j)
      ∙ made.2
      ∙ ap (λ k. behind here k (ran 0 n s.parts).1 (ran 0 n s.parts).2) j
      ∙ ap (λ (p : ℕ × State × Act). behind here n p.1 p.2) (sym e);
  faults_are = λ disk more.
      let here : World = record { state = s; typed = unread ++ more; disk = disk; shown = shown; left = left } in
      let made = stretch_counted n 0 here s.parts f (runs_running s h q) fits in
      let same = from_ran 0 n s.parts ∙ sym e in
      let told : n ≡ (ran_from 0 n s.parts).1 = sym (ap (λ (p : ℕ × State × Act). p.0) same) in
      let j : made.0 ≡ n = omega (arith, made.1, told) in
      faults_add n d.count (begun old (typed ++ more) disk limit) before
      ∙ ap (λ (w : World). faults_of n w (faults_of d.count (begun old (typed ++ more) disk limit) before)) (d.rounds_are disk more)
      ∙ ap (λ (g : Forth83Faults). faults_of n here g) (d.faults_are disk more)
      ∙ ap (λ k. faults_of k here f) (sym j)
      ∙ made.2
      ∙ ap (λ (p : ℕ × State × Act). counted (ran_from 0 n s.parts).0 p.2.event f) same
      ∙ ap (λ i. counted i act.event f) (sym at);
  unreturned = λ yes disk more.
      let here : World = record { state = s; typed = unread ++ more; disk = disk; shown = shown; left = left } in
      marks_on n d.count (begun old (typed ++ more) disk limit) here (d.rounds_are disk more) (d.unreturned yes disk more) (unpassed yes here refl refl);
}

-- an answer from the typed bytes
pub answered_on : (calling : Bool) (f : Forth83Faults) (s s' : State) (act : Act) (request : Request) (reply : Reply) (unread rest shown : List ℕ) (left : ℕ)
    → s.halt ≡ None → 0 < left → asked_by s.wait ≡ Some request
    → ((disk : Disk) (more : List ℕ) → served s request (unread ++ more) disk ≡ record { reply = reply; typed = rest ++ more; disk = disk })
    → (s', act) ≡ answer_of s reply
    → DrivesOn calling f s unread shown left (counted s.parts.ip act.event f) s' rest (shown ++ shown_bytes s'.parts.memory act.shown) left
unfolding round
answered_on calling f s s' act request reply unread rest shown left h l q v e before old typed limit d = record {
  count = 1 + d.count;
  rounds_are = λ disk more.
      let here : World = record { state = s; typed = unread ++ more; disk = disk; shown = shown; left = left } in
      rounds_add 1 d.count (begun old (typed ++ more) disk limit)
      ∙ ap (rounds 1) (d.rounds_are disk more)
      ∙ one_round here h l
      ∙ ap (round_by here) q
      ∙ ap (λ (x : Served). let m = answer_move s x.reply in record { state = m.state; typed = x.typed; disk = x.disk; shown = shown ++ m.bytes; left = left }) (v disk more)
      ∙ ap (λ (t : State × Act). record { state = t.0; typed = rest ++ more; disk = disk; shown = shown ++ shown_bytes t.0.parts.memory t.1.shown; left = left }) (sym e);
  faults_are = λ disk more.
      let here : World = record { state = s; typed = unread ++ more; disk = disk; shown = shown; left = left } in
      faults_add 1 d.count (begun old (typed ++ more) disk limit) before
      ∙ ap (λ (w : World). faults_of 1 w (faults_of d.count (begun old (typed ++ more) disk limit) before)) (d.rounds_are disk more)
      ∙ ap (λ (g : Forth83Faults). faults_of 1 here g) (d.faults_are disk more)
      ∙ answer_fault here f request h l q
      ∙ ap (λ (x : Served). counted s.parts.ip (answer_of s x.reply).1.event f) (v disk more)
      ∙ ap (λ (t : State × Act). counted s.parts.ip t.1.event f) (sym e);
  unreturned = λ yes disk more.
      let here : World = record { state = s; typed = unread ++ more; disk = disk; shown = shown; left = left } in
      marks_on 1 d.count (begun old (typed ++ more) disk limit) here (d.rounds_are disk more) (d.unreturned yes disk more)
      (adds_one at_0 here mark ∙ unmarked_wait here request q);
}
