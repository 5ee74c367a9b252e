-- Moves that are accepted leave what a list of moves is written to leave.
use Rattle.std.proofs.Common.{rules, arith, ◌≡◌, List, [], ◌∷◌, true, refl}
use Rattle.machine.specs.State.{State}
use Rattle.inner_interpreter.specs.Moves.{Turn, Accepts, AreAccepted, after, after_turn, turn_bytes, shown_by, shown_bytes}
use Rattle.inner_interpreter.specs.Histories.{acted, made, takes}
use Rattle.inner_interpreter.proofs.Hosting.{taken_move}

accepted_taken : (s : State) (t : Turn) → Accepts s t → takes s t ≡ true
accepted_taken s t a = search rules

acted_turned : (s : State) (t : Turn) → (acted s t).0 ≡ after_turn s t
acted_turned s t = search rules

acted_shows : (s : State) (t : Turn) → shown_bytes (acted s t).0.parts.memory (acted s t).1.shown ≡ turn_bytes s t
unfolding shown_bytes
acted_shows s t = search rules

pub moves_law : (s : State) (ts : List Turn) → AreAccepted s ts → ((made s ts).state ≡ after s ts) × ((made s ts).shown ≡ shown_by s ts)
unfolding after shown_by AreAccepted made
moves_law s [] h = (refl, refl)
moves_law s (t ∷ ts) h = grind (arith, taken_move, accepted_taken, acted_turned, acted_shows, moves_law (after_turn s t) ts h.1)
