-- What holds of each end of a move holds of the move, by its shape.
use Rattle.std.proofs.Common.{rules, ◌≡◌, ℕ, Some, None, Bool, if◌then◌else◌}
use Rattle.machine_parts.specs.Whole.{Whole}
use Rattle.machine_parts.specs.declared.parts.Request.{Request}
use Rattle.machine.specs.declared.act.Act.{Act}
use Rattle.machine.specs.State.{State}
use Rattle.machine.specs.Tick.{taken}
use Rattle.machine.specs.Answer.{Reply, answered, answer_of}

-- one of two ends
pub either : (P : State → Type 0) (b : Bool) (x y : State × Act) → P x.0 → P y.0 → P ((if b then x else y).0)
either P b x y h k = search rules

-- an answer, by what is
pub by_answer : (P : State → Type 0) (s : State) (reply : Reply) → ((p : Request × ℕ) → s.wait ≡ Some p → P (answered s.parts p reply).0) → (s.wait ≡ None → P s) → P (answer_of s reply).0
unfolding answer_of
by_answer P s reply some none = search rules

-- taking a token changes nothing but ip and pending
pub record IsTaken (s t : Whole) : Type 0 where
  pub memory : t.memory ≡ s.memory
  pub values : t.values ≡ s.values
  pub buffers : t.buffers ≡ s.buffers

pub is_taken : (s : Whole) → IsTaken s (taken s).1
unfolding taken
is_taken s = search rules
