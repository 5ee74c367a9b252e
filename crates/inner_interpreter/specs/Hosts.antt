-- Moves that a host made.
use Rattle.std.specs.Prelude.{◌≡◌, ℕ, List, ◌++◌}
use Rattle.machine.specs.declared.act.Event.{Event}
use Rattle.machine.specs.State.{State}
use Rattle.machine.specs.Answer.{seen}
use Rattle.inner_interpreter.specs.declared.hosts.Move.{Move}
use Rattle.inner_interpreter.specs.declared.hosts.Move.TheVariants as move
use Rattle.inner_interpreter.specs.Moves.{Turn, Tick, Answer, Enter}
use Rattle.inner_interpreter.specs.Histories.{Made, made, made_after}

abbrev pub turn_of : Move → Turn
turn_of move.Tick = Tick
turn_of (move.Answer answer) = Answer (seen answer)
turn_of (move.Enter word) = Enter word

-- a host made what such moves leave: the state, and in its logs the bytes that they show, and their events
pub record IsMade (m : Made) (state : State) (shown shown' : List ℕ) (events events' : List Event) : Type 0 where
  pub state_is : state ≡ m.state
  pub shown_is : shown' ≡ shown ++ m.shown
  pub events_are : events' ≡ events ++ m.events

-- the same of the first of some moves: what is left of them are those that come then
pub record HasMade (s : State) (ts : List Turn) (t : State) (us : List Turn) (shown shown' : List ℕ) (events events' : List Event) : Type 0 where
  pub bytes : List ℕ
  pub told : List Event
  pub made_is : made s ts ≡ made_after bytes told (made t us)
  pub shown_is : shown' ≡ shown ++ bytes
  pub events_are : events' ≡ events ++ told
