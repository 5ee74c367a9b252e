-- Typed bytes that are given in pieces.
use Rattle.std.proofs.Common.{◌≡◌, ℕ, zero, suc, ◌+◌, ◌-◌, ◌++◌, Bool, List, Option, None, Some, refl, sym, ap, ◌∙◌, append_assoc, append-nil}
use Rattle.block_buffers.specs.Disks.{Disk}
use Rattle.machine_parts.specs.declared.parts.Request.{Request}
use Rattle.machine.specs.State.{State}
use Rattle.inner_interpreter.specs.declared.stop.Stop.{Stop}
use Rattle.inner_interpreter.specs.Moves.{tick_move, answer_move}
use Rattle.inner_interpreter.specs.Runs.{World, served, round, round_by, rounds, next_by, stops}
use Rattle.inner_interpreter.proofs.Stretched.{rounds_add}
use Rattle.inner_interpreter.specs.Tracing.{trace, traced_line}
use Rattle.machine.specs.Answer.{asked_by}
use Rattle.forth83_c.specs.declared.record.Forth83Faults.{Forth83Faults}
use Rattle.forth83_c.specs.Driven.{at_0, begun, counted, counted_by, event_by, faults_of, mark, IsDriven}
use Rattle.forth83_c.proofs.Counting.{faults_add}
use Rattle.forth83_c.proofs.Turning.{marks_on}

-- the same, with more shown before it
abbrev lifted : List ℕ → World → World
lifted front w = record w { shown = front ++ w.shown }

round_lifted : (front : List ℕ) (w : World) (o : Option Request) → round_by (lifted front w) o ≡ lifted front (round_by w o)
round_lifted front w None =
    let m = tick_move w.state in
    ap (λ (bs : List ℕ). record w { state = m.state; shown = bs; left = w.left - 1 }) (append_assoc front w.shown m.bytes)
round_lifted front w (Some r) =
    let s = served w.state r w.typed w.disk in
    let m = answer_move w.state s.reply in
    ap (λ (bs : List ℕ). record w { state = m.state; typed = s.typed; disk = s.disk; shown = bs }) (append_assoc front w.shown m.bytes)

next_lifted : (front : List ℕ) (w : World) (o : Option Stop) → next_by (lifted front w) o ≡ lifted front (next_by w o)
unfolding round
next_lifted front w None = round_lifted front w _
next_lifted front w (Some x) = refl

rounds_lifted : (front : List ℕ) (n : ℕ) (w : World) → rounds n (lifted front w) ≡ lifted front (rounds n w)
unfolding rounds
rounds_lifted front zero w = refl
rounds_lifted front (suc n) w = ap (λ (v : World). next_by v (stops v)) (rounds_lifted front n w) ∙ next_lifted front (rounds n w) (stops (rounds n w))

counted_lifted : (front : List ℕ) (w : World) (o : Option Stop) (f : Forth83Faults) → counted_by (lifted front w) o f ≡ counted_by w o f
counted_lifted front w None f = by_request (asked_by w.state.wait) where
  by_request : (r : Option Request) → counted w.state.parts.ip (event_by (lifted front w) r) f ≡ counted w.state.parts.ip (event_by w r) f
  by_request None = refl
  by_request (Some r) = refl
counted_lifted front w (Some x) f = refl

faults_lifted : (front : List ℕ) (n : ℕ) (w : World) (f : Forth83Faults) → faults_of n (lifted front w) f ≡ faults_of n w f
unfolding faults_of
faults_lifted front zero w f = refl
faults_lifted front (suc n) w f =
    ap (λ (v : World). counted_by v (stops v) (faults_of n (lifted front w) f)) (rounds_lifted front n w)
    ∙ counted_lifted front (rounds n w) (stops (rounds n w)) (faults_of n (lifted front w) f)
    ∙ ap (λ (g : Forth83Faults). counted_by (rounds n w) (stops (rounds n w)) g) (faults_lifted front n w f)

marks_lifted : (front : List ℕ) (n : ℕ) (w : World) → trace at_0 mark n (lifted front w) ≡ trace at_0 mark n w
unfolding trace traced_line
marks_lifted front zero w = refl
marks_lifted front (suc n) w =
    ap (λ ls. ls ++ traced_line at_0 mark (rounds n (lifted front w))) (marks_lifted front n w)
    ∙ ap (λ (v : World). trace at_0 mark n w ++ traced_line at_0 mark v) (rounds_lifted front n w)

pub joined : (calling : Bool) (f f' f'' : Forth83Faults) (s s' s'' : State) (typed unread more unread' shown shown' : List ℕ) (limit left left' : ℕ)
    → IsDriven calling f s typed limit f' s' unread shown left → IsDriven calling f' s' (unread ++ more) left f'' s'' unread' shown' left'
    → IsDriven calling f s (typed ++ more) limit f'' s'' unread' (shown ++ shown') left'
joined calling f f' f'' s s' s'' typed unread more unread' shown shown' limit left left' a b = record {
  count = b.count + a.count;
  rounds_are = λ disk rest.
      rounds_add b.count a.count (begun s ((typed ++ more) ++ rest) disk limit)
      ∙ ap (rounds b.count) (middle disk rest)
      ∙ rounds_lifted shown b.count (begun s' ((unread ++ more) ++ rest) disk left)
      ∙ ap (lifted shown) (b.rounds_are disk rest);
  faults_are = λ disk rest.
      faults_add b.count a.count (begun s ((typed ++ more) ++ rest) disk limit) f
      ∙ ap (λ (w : World). faults_of b.count w (faults_of a.count (begun s ((typed ++ more) ++ rest) disk limit) f)) (middle disk rest)
      ∙ ap (λ (g : Forth83Faults). faults_of b.count (lifted shown (begun s' ((unread ++ more) ++ rest) disk left)) g) (first disk rest)
      ∙ faults_lifted shown b.count (begun s' ((unread ++ more) ++ rest) disk left) f'
      ∙ b.faults_are disk rest;
  unreturned = λ yes disk rest.
      marks_on b.count a.count (begun s ((typed ++ more) ++ rest) disk limit) (lifted shown (begun s' ((unread ++ more) ++ rest) disk left)) (middle disk rest)
      (ap (λ (ts : List ℕ). trace at_0 mark a.count (begun s ts disk limit)) (append_assoc typed more rest) ∙ a.unreturned yes disk (more ++ rest))
      (marks_lifted shown b.count (begun s' ((unread ++ more) ++ rest) disk left) ∙ b.unreturned yes disk rest);
} where
  at : Disk → List ℕ → List ℕ → World
  at disk ts bs = record { state = s'; typed = ts; disk = disk; shown = bs; left = left }

  middle : (disk : Disk) (rest : List ℕ) → rounds a.count (begun s ((typed ++ more) ++ rest) disk limit) ≡ lifted shown (begun s' ((unread ++ more) ++ rest) disk left)
  middle disk rest =
      ap (λ (ts : List ℕ). rounds a.count (begun s ts disk limit)) (append_assoc typed more rest)
      ∙ a.rounds_are disk (more ++ rest)
      ∙ ap (λ (ts : List ℕ). at disk ts shown) (sym (append_assoc unread more rest))
      ∙ ap (λ (bs : List ℕ). at disk ((unread ++ more) ++ rest) bs) (sym (append-nil shown))

  first : (disk : Disk) (rest : List ℕ) → faults_of a.count (begun s ((typed ++ more) ++ rest) disk limit) f ≡ f'
  first disk rest = ap (λ (ts : List ℕ). faults_of a.count (begun s ts disk limit) f) (append_assoc typed more rest) ∙ a.faults_are disk (more ++ rest)
