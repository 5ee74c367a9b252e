-- A list of moves; and what a machine's host sees that makes them by calls.
use Rattle.std.specs.Prelude.{ℕ, List, [], ◌∷◌, ◌++◌, Bool, is_none, ◌&&◌, if◌then◌else◌}
use Rattle.machine.specs.declared.act.Act.{Act}
use Rattle.machine.specs.declared.act.Event.{Event}
use Rattle.machine.specs.declared.act.Event.TheVariants.{Went}
use Rattle.machine.specs.State.{State}
use Rattle.machine.specs.Tick.{is_running, quiet, ticked}
use Rattle.machine.specs.Answer.{answer_of, asked_by, is_answer}
use Rattle.inner_interpreter.specs.Moves.{Turn, Tick, Answer, Enter, shown_bytes}
use Rattle.machine.specs.Entering.{entered, with_parts}

-- whether a machine takes a move: a tick while it neither is halted nor waits, an answer that fits what it asks
abbrev pub takes : State → Turn → Bool
takes s Tick = is_running s
takes s (Enter word) = is_running s
takes s (Answer reply) = is_none s.halt && is_answer (asked_by s.wait) reply

-- what a move that is taken leaves, and its act
abbrev pub acted : State → Turn → State × Act
acted s Tick = ticked s.parts
acted s (Answer reply) = answer_of s reply
acted s (Enter word) = (with_parts s (entered s.parts word), quiet)

-- a request, a fault or a halt; going on is none of these
abbrev pub told_event : Event → List Event
told_event Went = []
told_event event = event ∷ []

-- what moves leave: the state, the bytes that they show, joined, and their requests, faults and halts in order
pub record Made : Type 0 where
  pub state : State
  pub shown : List ℕ
  pub events : List Event

-- the same, after these bytes and events
abbrev pub made_after : List ℕ → List Event → Made → Made
made_after shown events m = record { state = m.state; shown = shown ++ m.shown; events = events ++ m.events }

-- a list of moves: one that the machine doesn't take changes nothing and shows nothing
unfoldable pub made : State → List Turn → Made
made s [] = record { state = s; shown = []; events = [] }
made s (t ∷ ts) =
    let m = acted s t in
    if takes s t then made_after (shown_bytes m.0.parts.memory m.1.shown) (told_event m.1.event) (made m.0 ts)
    else made s ts
