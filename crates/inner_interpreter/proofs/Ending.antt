-- A run has an end: each round leaves less to do.
use Rattle.std.proofs.Common.{◌≡◌, ℕ, zero, suc, ◌<◌, ◌≤◌, ◌==◌, Option, Some, None, refl, arith, ap, sym, subst, ◌∙◌}
use Rattle.std.specs.Prelude.{IsSome}
use Rattle.memory.specs.Bytes.{cell}
use Rattle.memory.specs.declared.system.TheConstants.{FAULT}
use Rattle.machine_parts.specs.Whole.{Whole}
use Rattle.machine_parts.specs.declared.parts.Request.{Request}
use Rattle.machine.specs.declared.act.Shown.{Shown}
use Rattle.inner_interpreter.specs.declared.stop.Stop.{Stop}
use Rattle.machine.specs.State.{State}
use Rattle.machine.specs.Tick.{by_fault}
use Rattle.machine.specs.Answer.{Reply, answered, answer_of, key_answered, line_answered, read_answered, write_answered}
use Rattle.inner_interpreter.specs.Runs.{World, round, rounds, stops, next_by}
use Rattle.inner_interpreter.specs.Worlds.{waiting, rounds_left}
use Rattle.inner_interpreter.proofs.Shapes.{either, by_answer}
use Rattle.inner_interpreter.proofs.Stretched.{rounds_add, round_tick}
use Rattle.inner_interpreter.proofs.Uniqueness.{stays}

-- no request waits
abbrev IsFree : State → Type 0
IsFree s = s.wait ≡ None

fault_none : (s : Whole) (shown : Shown) (f : ℕ) → (by_fault s shown f).0.wait ≡ None
unfolding by_fault
fault_none s shown f = either IsFree (cell s.memory FAULT == 0) _ _ refl refl

answered_none : (s : Whole) (p : Request × ℕ) (reply : Reply) → (answered s p reply).0.wait ≡ None
unfolding answered key_answered line_answered read_answered write_answered
answered_none s p reply = grind (arith, either, fault_none)

pub answer_none : (s : State) (reply : Reply) → (answer_of s reply).0.wait ≡ None
answer_none s reply = by_answer IsFree s reply (λ p q. answered_none s.parts p reply) (λ q. q)

pub one_waits : (o : Option (Request × ℕ)) → waiting o ≤ 1
one_waits o = grind arith

-- what a world may still do
abbrev to_do : World → ℕ
to_do w = rounds_left w.left w.state.wait

less_to_do : (w : World) → 0 < w.left → to_do (round w) < to_do w
unfolding round
less_to_do w l = grind (arith, round_tick, one_waits, answer_none)

-- a world that stops stays
stopped : (n : ℕ) (w : World) (s : Stop) → stops w ≡ Some s → stops (rounds n w) ≡ Some s
unfolding rounds
stopped n w s h = ap stops (stays n 0 n w s (omega arith) h) ∙ h

goes_on : (w : World) → stops w ≡ None → 0 < w.left
goes_on w h = grind arith

one_round : (w : World) → stops w ≡ None → rounds 1 w ≡ round w
unfolding rounds
one_round w h = ap (next_by w) h

ends_by : (n : ℕ) (w : World) → to_do w ≤ n → IsSome (stops (rounds n w))
ends_by zero w h = by_stop (stops w) refl where
  by_stop : (o : Option Stop) → stops w ≡ o → IsSome (stops (rounds 0 w))
  by_stop (Some s) q = subst IsSome (sym (stopped 0 w s q)) refl
  by_stop None q = absurd (omega (arith, goes_on w q, h))
ends_by (suc n) w h = by_stop (stops w) refl (λ l. ends_by n (round w) l) where
  by_stop : (o : Option Stop) → stops w ≡ o → (to_do (round w) ≤ n → IsSome (stops (rounds n (round w)))) → IsSome (stops (rounds (suc n) w))
  by_stop (Some s) q rest = subst IsSome (sym (stopped (suc n) w s q)) refl
  by_stop None q rest =
      let more : rounds (suc n) w ≡ rounds n (round w) = ap (λ (k : ℕ). rounds k w) (omega arith) ∙ rounds_add n 1 w ∙ ap (rounds n) (one_round w q)
      in subst (λ (v : World). IsSome (stops v)) (sym more) (rest (omega (arith, h, less_to_do w (goes_on w q))))

pub end_law : (w : World) → IsSome (stops (rounds (rounds_left w.left w.state.wait) w))
end_law w = ends_by (rounds_left w.left w.state.wait) w (omega arith)
