-- The rounds by which a machine compiles screens, by the ticks that are left, with a device that reports its blocks.
use Rattle.std.specs.Prelude.{ℕ, zero, suc, ◌+◌, ◌==◌, ◌≡◌, List, [], Bool, true, false, Option, None, Some, is_none, ◌&&◌, if◌then◌else◌, length}
use Rattle.block_buffers.specs.Disks.{Disk}
use Rattle.memory.specs.Bytes.{put_cell}
use Rattle.memory.specs.declared.system.TheConstants.{TO_IN, BLK}
use Rattle.machine_parts.specs.Whole.{Whole}
use Rattle.machine_parts.specs.declared.parts.Request.{Request}
use Rattle.machine_parts.specs.declared.parts.Request.TheVariants.{Read, Write}
use Rattle.machine.specs.declared.act.Cause.TheVariants as cause
use Rattle.machine.specs.declared.act.Event.{Event}
use Rattle.machine.specs.declared.act.Event.TheVariants as event
use Rattle.machine.specs.State.{State}
use Rattle.machine.specs.Tick.{ticked}
use Rattle.machine.specs.Answer.{answer_of}
use Rattle.inner_interpreter.specs.Runs.{served}
pub use Rattle.metacompiler.specs.declared.rounds.Stop.{Stop}
pub use Rattle.metacompiler.specs.declared.rounds.Stop.TheVariants.{Ended, Limit, Fault, Halted, Asked}

-- the rounds of a screen stop at its end
abbrev pub is_end : Stop → Bool
is_end Ended = true
is_end _ = false

-- where they stop, and the ticks that are left then
pub record Out : Type 0 where
  pub parts : Whole
  pub disk : Disk
  pub left : ℕ
  pub stop : Stop

abbrev pub out : Whole → Disk → ℕ → Stop → Out
out s d n why = record { parts = s; disk = d; left = n; stop = why }

-- the screen's end
abbrev pub is_ended : Whole → Bool
is_ended s = (s.ip == 0) && (is_none s.pending && (length s.returns == 0))

-- after a tick or an answer that went: the screen's end, or on
abbrev pub went : ℕ → (Whole → Disk → Out) → Whole → Disk → Out
went left go s d = if is_ended s then out s d left Ended else go s d

-- a fault, or a halt
abbrev pub stopped : Event → Stop
stopped (event.Fault f) = Fault f
stopped (event.Halt (cause.Fault f)) = Fault f
stopped (event.Halt c) = Halted
stopped _ = Asked

-- where the rounds stop after a move, if they do
abbrev pub stop_by : State → Event → Option Stop
stop_by s event.Went = if is_ended s.parts then Some Ended else None
stop_by s e = Some (stopped e)

-- after an answer
abbrev pub by_answer : ℕ → (Whole → Disk → Out) → State → Disk → Event → Out
by_answer left go s d event.Went = went left go s.parts d
by_answer left go s d e = out s.parts d left (stopped e)

-- an answer of the device
abbrev pub by_device : ℕ → (Whole → Disk → Out) → State → Disk → Request → Out
by_device left go s d r =
    let a = served s r [] d in let t = answer_of s a.reply in by_answer left go t.0 a.disk t.1.event

-- a request: of the device it is answered if a tick is left
abbrev pub by_request : ℕ → (Whole → Disk → Out) → State → Disk → Request → Out
by_request left go s d (Read u) = if left == 0 then out s.parts d left Limit else by_device left go s d (Read u)
by_request left go s d (Write u) = if left == 0 then out s.parts d left Limit else by_device left go s d (Write u)
by_request left go s d r = out s.parts d left Asked

-- after a tick: the event decides first
abbrev pub by_tick : ℕ → (Whole → Disk → Out) → State → Disk → Event → Out
by_tick left go s d event.Went = went left go s.parts d
by_tick left go s d (event.Ask r) = by_request left go s d r
by_tick left go s d e = out s.parts d left (stopped e)

-- at most n ticks of a machine that runs; what is shown is dropped
unfoldable pub rounds : ℕ → Whole → Disk → Out
rounds zero s d = out s d zero Limit
rounds (suc n) s d = let t = ticked s in by_tick n (λ (u : Whole) (e : Disk). rounds n u e) t.0 d t.1.event

-- the machine is entered at a word, to read a screen from its beginning
abbrev pub entered : Whole → (w screen : ℕ) → Whole
entered s w screen =
    record s { memory = put_cell (put_cell s.memory BLK screen) TO_IN 0; returns = []; ip = 0; pending = Some w }

-- after a screen: so many more follow it, of which the first has this number
abbrev pub by_stop : (ℕ → Whole → Disk → Out) → Out → Stop → Out
by_stop go o Ended = go o.left o.parts o.disk
by_stop go o _ = o

unfoldable pub then_screens : (w more screen : ℕ) → Out → Out
then_screens w zero screen o = o
then_screens w (suc more) screen o =
    by_stop (λ (n : ℕ) (s : Whole) (d : Disk). then_screens w more (screen + 1) (rounds n (entered s w screen) d))
    o o.stop

-- so many screens from a number on, in turn
abbrev pub screens : (w count screen left : ℕ) → Whole → Disk → Out
screens w count screen left s d = then_screens w count screen (out s d left Ended)

-- for want of ticks rounds stop only if all are done
abbrev pub StopsForWant : Type 0
StopsForWant =
    (w count screen n : ℕ) (s : Whole) (d : Disk) →
    (screens w count screen n s d).stop ≡ Limit → (screens w count screen n s d).left ≡ 0

-- n ticks lead from s and device d to t and device e, with what is asked and answered between them; none of them ends
-- the screen
abbrev pub Goes : ℕ → Whole → Disk → Whole → Disk → Type 0
Goes n s d t e = (k : ℕ) → rounds (n + k) s d ≡ rounds k t e

-- the state with this stack at this place of a thread
abbrev pub at : Whole → List ℕ → ℕ → Whole
at u d i = record u { values = d; ip = i; pending = None }

-- the state with w to be executed next
abbrev pub due : Whole → List ℕ → ℕ → ℕ → Whole
due u d i w = record u { values = d; ip = i; pending = Some w }
