-- A run: ticks, and the device's answers between them.
use Rattle.std.specs.Prelude.{◌≡◌, ℕ, ◌+◌, List, [], ◌∷◌, ◌++◌, Option, Some, None, Bool, true, false, is_some, ◌||◌, nat_lt, nat_le, length, if◌then◌else◌}
use Rattle.block_buffers.specs.DeviceCalls.{DeviceCall}
use Rattle.machine_parts.specs.declared.parts.Request.{Request}
use Rattle.machine_parts.specs.declared.parts.Request.TheVariants as request
use Rattle.machine.specs.declared.act.Event.{Event}
use Rattle.machine.specs.declared.act.Event.TheVariants as event
use Rattle.machine.specs.State.{State}
use Rattle.machine.specs.Answer.{asked_by}
use Rattle.inner_interpreter.specs.Moves.{Turn, Tick, Answer, Accepts, device_call, is_tick, shown_bytes}
use Rattle.inner_interpreter.specs.Histories.{acted}
use Rattle.inner_interpreter.specs.Requests.{asks_device}
use Rattle.serving.specs.Frames.{shown_reply}
use Rattle.serving.specs.declared.running.Next.{Next}
use Rattle.serving.specs.declared.running.Next.TheVariants as next

-- how far a run has come: the state, the event of the last act, the ticks done, how many bytes were shown, the calls that the device
-- was given, and the frames that were sent
pub record Progress : Type 0 where
  pub state : State
  pub event : Event
  pub done : ℕ
  pub shown : ℕ
  pub calls : List DeviceCall
  pub replies : List ℕ

abbrev pub begun : State → Progress
begun s = record { state = s; event = event.Went; done = 0; shown = 0; calls = []; replies = [] }

-- after a move
abbrev pub onward : Progress → Turn → Progress
onward p t =
    let m = acted p.state t in
    let bytes = shown_bytes m.0.parts.memory m.1.shown in
    record {
      state = m.0;
      event = m.1.event;
      done = p.done + (if is_tick t then 1 else 0);
      shown = p.shown + length bytes;
      calls = p.calls ++ device_call p.state t;
      replies = p.replies ++ shown_reply bytes;
    }

-- a fault that a fault thread handles
abbrev pub is_fault : Event → Bool
is_fault (event.Fault f) = true
is_fault _ = false

-- a block that a device of so many blocks has is asked to be read or written
abbrev pub next_if_asked : (count : ℕ) → Request → Next
next_if_asked count (request.Read u) = if nat_lt u count then next.Answers (request.Read u) else next.Ends
next_if_asked count (request.Write u) = if nat_lt u count then next.Answers (request.Write u) else next.Ends
next_if_asked count _ = next.Ends

abbrev pub next_by : (count : ℕ) → (over : Bool) → Option Request → Next
next_by count over (Some r) = next_if_asked count r
next_by count over None = if over then next.Ends else next.Ticks

-- what comes next in a run of at most `limit` ticks over a device of so many blocks. It ends at a fault, at a halt, at what the device
-- cannot answer, after the ticks, and before a tick if 2,048 bytes or more were shown
unfoldable pub next_of : (count limit : ℕ) → State → Event → (done shown : ℕ) → Next
next_of count limit s event done shown =
    if is_fault event || is_some s.halt then next.Ends
    else next_by count (nat_le limit done || nat_le 2048 shown) (asked_by s.wait)

-- a move comes: a tick, or the device's answer to what is asked
abbrev pub Comes : Next → State → Turn → Type 0
Comes next.Ticks s Tick = Unit {0}
Comes (next.Answers r) s (Answer reply) = (asked_by s.wait ≡ Some r) × Accepts s (Answer reply)
Comes _ s t = ⊥

abbrev pub next_at : (count limit : ℕ) → Progress → Next
next_at count limit p = next_of count limit p.state p.event p.done p.shown

-- these moves, the latest of which is first, lead from one place to the other
unfoldable pub Lead : (count limit : ℕ) → Progress → List Turn → Progress → Type 0
Lead count limit p [] q = q ≡ p
Lead count limit p (t ∷ earlier) q =
    (m : Progress) × Lead count limit p earlier m × Comes (next_at count limit m) m.state t × (q ≡ onward m t)

-- a run of a machine came so far; whether to its end
pub record HasRunTo (count limit : ℕ) (s : State) (whole : Bool) (p : Progress) : Type 0 where
  pub turns : List Turn
  pub lead : Lead count limit (begun s) turns p
  pub ends : whole ≡ true → next_at count limit p ≡ next.Ends

-- a block is asked to be read or written
pub record IsAsking (s : State) (r : Request) : Type 0 where
  pub halts : s.halt ≡ None
  pub asks : asked_by s.wait ≡ Some r
  pub device : asks_device (Some r) ≡ true
