-- A machine over lent memory is the same that a record keeps, and its memory comes back.
use Rattle.std.proofs.Common.{rules, ◌≡◌, ◌++◌, ℕ, zero, suc, List, [], Bool, Option, Some, None, refl, sym, ap, ◌∙◌, subst}
use Rattle.block_buffers.specs.Disks.{Disk}
use Rattle.machine.specs.declared.act.Act.{Act}
use Rattle.machine_parts.specs.declared.parts.Request.{Request}
use Rattle.machine.specs.Answer.{Reply, answer_of, asked_by}
use Rattle.machine.specs.Met.{is_met}
use Rattle.machine.specs.State.{State, state_at}
use Rattle.machine.proofs.Places.{answer_at, ticked_at}
use Rattle.inner_interpreter.specs.declared.stop.Stop.{Stop as RunStop}
use Rattle.inner_interpreter.specs.Runs.{World, rounds, served, stops}
use Rattle.inner_interpreter.specs.Tracing.{trace, traced_line}
use Rattle.inner_interpreter.proofs.Places.{rounds_at, rounds_stay, world_at}
use Rattle.forth83_c.specs.declared.record.Forth83Faults.{Forth83Faults}
use Rattle.forth83_c.specs.declared.stop.Stop.{Stop}
use Rattle.forth83_c.specs.Driven.{at_0, begun, counted, counted_by, event_by, faults_of, is_returned, mark, HasStopped, IsDriven}

no_disk : Disk
no_disk = record { blocks = []; coming = [] }

-- driving a machine leaves its memory where it is
pub driven_stays : (calling : Bool) (f f' : Forth83Faults) (s s' : State) (typed unread shown : List ℕ) (limit left : ℕ) → IsDriven calling f s typed limit f' s' unread shown left → s'.parts.place ≡ s.parts.place
driven_stays calling f f' s s' typed unread shown limit left d =
    ap (λ (w : World). w.state.parts.place) (sym (d.rounds_are no_disk [])) ∙ rounds_stay d.count (begun s (typed ++ []) no_disk limit)

-- a round comes to the same wherever that is
counted_at : (p : Option ℕ) (w : World) (o : Option RunStop) (f : Forth83Faults) → counted_by (world_at p w) o f ≡ counted_by w o f
counted_at p w None f = by_request (asked_by w.state.wait) where
  by_request : (r : Option Request) → counted w.state.parts.ip (event_by (world_at p w) r) f ≡ counted w.state.parts.ip (event_by w r) f
  by_request None = ap (λ (x : State × Act). counted w.state.parts.ip x.1.event f) (ticked_at p w.state.parts)
  by_request (Some r) = ap (λ (x : State × Act). counted w.state.parts.ip x.1.event f) (answer_at p w.state (served w.state r w.typed w.disk).reply)
counted_at p w (Some x) f = refl

faults_at : (p : Option ℕ) (n : ℕ) (w : World) (f : Forth83Faults) → faults_of n (world_at p w) f ≡ faults_of n w f
unfolding faults_of
faults_at p zero w f = refl
faults_at p (suc n) w f =
    ap (λ (v : World). counted_by v (stops v) (faults_of n (world_at p w) f)) (rounds_at p n w)
    ∙ counted_at p (rounds n w) (stops (rounds n w)) (faults_of n (world_at p w) f)
    ∙ ap (λ (g : Forth83Faults). counted_by (rounds n w) (stops (rounds n w)) g) (faults_at p n w f)

marked_at : (p : Option ℕ) (w : World) → traced_line at_0 mark (world_at p w) ≡ traced_line at_0 mark w
unfolding traced_line is_met
marked_at p w = refl

marks_at : (p : Option ℕ) (n : ℕ) (w : World) → trace at_0 mark n (world_at p w) ≡ trace at_0 mark n w
unfolding trace
marks_at p zero w = refl
marks_at p (suc n) w =
    ap (λ ls. ls ++ traced_line at_0 mark (rounds n (world_at p w))) (marks_at p n w)
    ∙ ap (λ (v : World). trace at_0 mark n w ++ traced_line at_0 mark v) (rounds_at p n w)
    ∙ ap (λ ls. trace at_0 mark n w ++ ls) (marked_at p (rounds n w))

-- and does the same wherever that is
driven_at : (p : Option ℕ) (calling : Bool) (f f' : Forth83Faults) (s s' : State) (typed unread shown : List ℕ) (limit left : ℕ) → IsDriven calling f s typed limit f' s' unread shown left → IsDriven calling f (state_at p s) typed limit f' (state_at p s') unread shown left
driven_at p calling f f' s s' typed unread shown limit left d = record {
  count = d.count;
  rounds_are = λ disk more. rounds_at p d.count (begun s (typed ++ more) disk limit) ∙ ap (λ (w : World). record w { state = state_at p w.state }) (d.rounds_are disk more);
  faults_are = λ disk more. faults_at p d.count (begun s (typed ++ more) disk limit) f ∙ d.faults_are disk more;
  unreturned = λ yes disk more. marks_at p d.count (begun s (typed ++ more) disk limit) ∙ d.unreturned yes disk more;
}

pub driven_lent : (name : ℕ) (m m' s s' : State) (calling : Bool) (f f' : Forth83Faults) (typed unread shown : List ℕ) (limit left : ℕ) → s.parts.place ≡ None → m ≡ state_at (Some name) s → s' ≡ state_at None m' → IsDriven calling f m typed limit f' m' unread shown left → IsDriven calling f s typed limit f' s' unread shown left
driven_lent name m m' s s' calling f f' typed unread shown limit left none from to d =
    let back : state_at None m ≡ s = ap (state_at None) from ∙ ap (λ p. state_at p s) (sym none) in
    subst (λ (t : State). IsDriven calling f t typed limit f' s' unread shown left) back
    (subst (λ (t : State). IsDriven calling f (state_at None m) typed limit f' t unread shown left) (sym to) (driven_at None calling f f' m m' typed unread shown limit left d))

-- why it ends there, too
pub stopped_at : (calling : Bool) (stop : Stop) (p : Option ℕ) (s : State) (unread : List ℕ) (left size room : ℕ) → HasStopped calling stop s unread left size room → HasStopped calling stop (state_at p s) unread left size room
unfolding is_returned
stopped_at calling stop p s unread left size room h = search rules

-- so does an answer
pub event_lent : (name : ℕ) (m s : State) (reply : Reply) (x : State × Act) → s.parts.place ≡ None → m ≡ state_at (Some name) s → x ≡ answer_of m reply → x.1.event ≡ (answer_of s reply).1.event
event_lent name m s reply x none from is =
    let back : state_at None m ≡ s = ap (state_at None) from ∙ ap (λ p. state_at p s) (sym none) in
    ap (λ (y : State × Act). y.1.event) is ∙ sym (ap (λ (y : State × Act). y.1.event) (answer_at None m reply)) ∙ ap (λ (t : State). (answer_of t reply).1.event) back

pub answered_lent : (name : ℕ) (m m' s s' : State) (reply : Reply) → s.parts.place ≡ None → m ≡ state_at (Some name) s → s' ≡ state_at None m' → m' ≡ (answer_of m reply).0 → s' ≡ (answer_of s reply).0
answered_lent name m m' s s' reply none from to is =
    let back : state_at None m ≡ s = ap (state_at None) from ∙ ap (λ p. state_at p s) (sym none) in
    to ∙ ap (state_at None) is ∙ sym (ap (λ (x : State × Act). x.0) (answer_at None m reply)) ∙ ap (λ (t : State). (answer_of t reply).0) back
