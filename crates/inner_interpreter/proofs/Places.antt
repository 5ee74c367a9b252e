-- Rounds do the same wherever memory lies, and leave it there.
use Rattle.std.proofs.Common.{rules, ◌≡◌, ◌∙◌, ℕ, zero, suc, List, [], ◌∷◌, Option, Some, None, refl, ap}
use Rattle.block_buffers.specs.Disks.{Disk}
use Rattle.machine_parts.specs.declared.parts.Request.{Request}
use Rattle.machine.specs.State.{State, state_at}
use Rattle.machine.specs.Answer.{Reply, asked_by}
use Rattle.machine.proofs.Places.{ticked_at, answer_at}
use Rattle.inner_interpreter.specs.declared.stop.Stop.{Stop}
use Rattle.inner_interpreter.specs.Moves.{Move, move_of, tick_move, answer_move}
use Rattle.inner_interpreter.specs.Runs.{World, served, round, round_by, stops, next_by, rounds}

-- the same world with memory at another place
abbrev pub world_at : Option ℕ → World → World
world_at p w = record w { state = state_at p w.state }

-- what a move leaves, with memory at another place
abbrev pub left_at : Option ℕ → Move → Move
left_at p m = record { state = state_at p m.state; bytes = m.bytes }

pub tick_move_at : (p : Option ℕ) (s : State) → tick_move (state_at p s) ≡ left_at p (tick_move s)
tick_move_at p s = ap move_of (ticked_at p s.parts)

pub answer_move_at : (p : Option ℕ) (s : State) (reply : Reply) → answer_move (state_at p s) reply ≡ left_at p (answer_move s reply)
answer_move_at p s reply = ap move_of (answer_at p s reply)

pub served_at : (p : Option ℕ) (s : State) (r : Request) (typed : List ℕ) (disk : Disk) → served (state_at p s) r typed disk ≡ served s r typed disk
served_at p s r typed disk = cc

round_by_at : (p : Option ℕ) (w : World) (asked : Option Request) → round_by (world_at p w) asked ≡ world_at p (round_by w asked)
round_by_at p w asked = search (rules, tick_move_at, served_at, answer_move_at)

pub round_at : (p : Option ℕ) (w : World) → round (world_at p w) ≡ world_at p (round w)
unfolding round
round_at p w = round_by_at p w (asked_by w.state.wait)

-- rounds do the same wherever memory is
pub rounds_at : (p : Option ℕ) (n : ℕ) (w : World) → rounds n (record w { state = state_at p w.state }) ≡ record (rounds n w) { state = state_at p (rounds n w).state }
unfolding rounds
rounds_at p zero w = refl
rounds_at p (suc n) w = ap (λ (v : World). next_by v (stops v)) (rounds_at p n w) ∙ by_stop (stops (rounds n w)) where
  by_stop : (s : Option Stop) → next_by (world_at p (rounds n w)) s ≡ world_at p (next_by (rounds n w) s)
  by_stop None = round_at p (rounds n w)
  by_stop (Some s) = refl

-- memory stays where it is
pub rounds_stay : (n : ℕ) (w : World) → (rounds n w).state.parts.place ≡ w.state.parts.place
rounds_stay n w = ap (λ (v : World). v.state.parts.place) (rounds_at w.state.parts.place n w)
