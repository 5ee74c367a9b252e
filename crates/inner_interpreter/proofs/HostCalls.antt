-- Calls of a machine, by what their contracts ensure.
use Rattle.std.specs.Prelude.{◌≡◌, ℕ, List, [], ◌∷◌, OnErr, Result, Ok, Err, replicate}
use Rattle.machine.specs.declared.act.Act.{Act}
use Rattle.machine.specs.declared.act.Event.{Event}
use Rattle.machine.specs.declared.act.Refused.{Refused}
use Rattle.machine.specs.State.{State}
use Rattle.machine.specs.Tick.{IsTicked, AreTicked, IsRefused}
use Rattle.machine.specs.Answer.{Reply, TakesFit, RefusesHalted, RefusesUnfit}
use Rattle.inner_interpreter.specs.Moves.{Turn, Tick, Answer, shown_bytes}
use Rattle.inner_interpreter.specs.Histories.{told_event}

-- a call of a machine, and what it answered
pub data Call : Type 0 where
  Ticked : Result Act Refused → Call
  Answered : Reply → Result Act Refused → Call
  ManyTicked : ℕ → Result (ℕ × Act) Refused → Call

-- what `answer` ensures
pub record Answers (old new : State) (reply : Reply) (result : Result Act Refused) : Type 0 where
  pub done : TakesFit old new reply result
  pub halted : RefusesHalted old result
  pub not_asked : RefusesUnfit old reply result
  pub stays : OnErr result (new ≡ old)

-- what `tick`, `answer` and `ticks` ensure, by the definitions that their clauses cite
abbrev pub Ensures : State → Call → State → Type 0
Ensures old (Ticked (Ok act)) new = IsTicked old new act
Ensures old (Ticked (Err refused)) new = IsRefused old new refused
Ensures old (Answered reply result) new = Answers old new reply result
Ensures old (ManyTicked n (Ok r)) new = AreTicked n old new r
Ensures old (ManyTicked n (Err refused)) new = IsRefused old new refused

-- the moves that a call makes; one that is refused is a move that isn't taken
abbrev pub moves_of : Call → List Turn
moves_of (Ticked result) = Tick ∷ []
moves_of (Answered reply result) = Answer reply ∷ []
moves_of (ManyTicked n (Ok r)) = replicate r.0 Tick
moves_of (ManyTicked n (Err refused)) = []

-- what its host sees of a call that left this state: the bytes that its act shows
abbrev pub seen_bytes : State → Call → List ℕ
seen_bytes s (Ticked (Ok act)) = shown_bytes s.parts.memory act.shown
seen_bytes s (Answered reply (Ok act)) = shown_bytes s.parts.memory act.shown
seen_bytes s (ManyTicked n (Ok r)) = shown_bytes s.parts.memory r.1.shown
seen_bytes s _ = []

-- and its event
abbrev pub seen_events : Call → List Event
seen_events (Ticked (Ok act)) = told_event act.event
seen_events (Answered reply (Ok act)) = told_event act.event
seen_events (ManyTicked n (Ok r)) = told_event r.1.event
seen_events _ = []
