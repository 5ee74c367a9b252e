-- How far a call drives a machine: rounds of a run, up to where its host is needed.
use Rattle.std.specs.Prelude.{◌≡◌, ℕ, zero, suc, ◌+◌, ◌-◌, ◌<◌, ◌≤◌, ◌==◌, nat_le, Bool, true, false, is_none, ◌&&◌, List, [], ◌∷◌, ◌++◌, length, take, drop, Option, None, Some, IsSome, if◌then◌else◌}
use Rattle.std.specs.List.{list_all}
use Rattle.block_buffers.specs.Disks.{Disk}
use Rattle.cells.specs.Cell.{wrap}
use Rattle.memory.specs.Bytes.{bytes}
use Rattle.machine_parts.specs.Whole.{Whole}
use Rattle.machine_parts.specs.declared.parts.Request.{Request}
use Rattle.machine_parts.specs.declared.parts.Request.TheVariants.{Key, Line, Read, Write}
use Rattle.machine.specs.declared.act.Cause.TheVariants as cause
use Rattle.machine.specs.declared.act.Event.{Event}
use Rattle.machine.specs.declared.act.Event.TheVariants as event
use Rattle.machine.specs.declared.extent.Extent.{Extent}
use Rattle.machine.specs.Answer.{answer_of, asked_by, is_typed}
use Rattle.machine.specs.Tick.{is_running, ticked}
use Rattle.inner_interpreter.specs.declared.stop.Stop.{Stop as RunStop}
use Rattle.inner_interpreter.specs.Requests.{asks_device}
use Rattle.inner_interpreter.specs.Runs.{World, rounds, served, stops}
use Rattle.inner_interpreter.specs.Tracing.{trace}
use Rattle.machine.specs.State.{State}
use Rattle.forth83_c.specs.declared.driving.Course.{Course}
use Rattle.forth83_c.specs.declared.record.Forth83Faults.{Forth83Faults}
use Rattle.forth83_c.specs.declared.stop.Stop.{Stop}
use Rattle.forth83_c.specs.declared.stop.Stop.TheVariants.{Halted, Limit, Room, Typed, Block, Span, Line as LineLeft, Returned}

-- a run from this state over typed bytes and a device, with so many ticks left, that has shown nothing yet
abbrev pub begun : State → List ℕ → Disk → ℕ → World
begun s typed disk limit = record { state = s; typed = typed; disk = disk; shown = []; left = limit }

-- a fault is counted, modulo 65,536, whether a fault thread handles it or not, with ip before the move that met it
abbrev pub counted : (ip : ℕ) → Event → Forth83Faults → Forth83Faults
counted ip (event.Fault f) faults = record { count = wrap (faults.count + 1); last = f; ip = ip }
counted ip (event.Halt (cause.Fault f)) faults = record { count = wrap (faults.count + 1); last = f; ip = ip }
counted ip _ faults = faults

-- what a round comes to
abbrev pub event_by : World → Option Request → Event
event_by w None = (ticked w.state.parts).1.event
event_by w (Some r) = (answer_of w.state (served w.state r w.typed w.disk).reply).1.event

abbrev pub counted_by : World → Option RunStop → Forth83Faults → Forth83Faults
counted_by w None faults = counted w.state.parts.ip (event_by w (asked_by w.state.wait)) faults
counted_by w (Some _) faults = faults

-- the faults of n rounds are counted
unfoldable pub faults_of : ℕ → World → Forth83Faults → Forth83Faults
faults_of zero w faults = faults
faults_of (suc n) w faults = (let v = rounds n w in counted_by v (stops v) (faults_of n w faults))

-- a word that was called has returned: the machine runs, nothing is pending, ip is 0, and the return stack is empty
unfoldable pub is_returned : State → Bool
is_returned s = is_running s && (is_none s.parts.pending && (s.parts.ip == 0 && length s.parts.returns == 0))

-- a mark for each tick whose token is taken at address 0 while the return stack is empty
abbrev pub at_0 : Extent
at_0 = record { from = 0; end = 1 }

abbrev pub mark : Whole → List ℕ
mark s = if length s.returns == 0 then 1 ∷ [] else []

-- some rounds of that run, whatever its device, which wasn't called, and whatever is typed after these bytes: what they leave of the
-- typed bytes and of the limit, what they show, and their faults; during a call, none of them begins where the word has returned
pub record IsDriven (calling : Bool) (before : Forth83Faults) (old : State) (typed : List ℕ) (limit : ℕ) (after : Forth83Faults) (new : State) (unread shown : List ℕ) (left : ℕ) : Type 0 where
  pub count : ℕ
  pub rounds_are : (disk : Disk) (more : List ℕ) → rounds count (begun old (typed ++ more) disk limit) ≡ record { state = new; typed = unread ++ more; disk = disk; shown = shown; left = left }
  pub faults_are : (disk : Disk) (more : List ℕ) → faults_of count (begun old (typed ++ more) disk limit) before ≡ after
  pub unreturned : calling ≡ true → (disk : Disk) (more : List ℕ) → trace at_0 mark count (begun old (typed ++ more) disk limit) ≡ []

-- more rounds of each such run
abbrev pub DrivesOn : (calling : Bool) → Forth83Faults → State → (unread shown : List ℕ) → (left : ℕ) → Forth83Faults → State → (unread' shown' : List ℕ) → (left' : ℕ) → Type 0
DrivesOn calling faults s unread shown left faults' s' unread' shown' left' =
    (before : Forth83Faults) (old : State) (typed : List ℕ) (limit : ℕ)
    → IsDriven calling before old typed limit faults s unread shown left → IsDriven calling before old typed limit faults' s' unread' shown' left'

-- the typed bytes that are left have no key, or no whole line
abbrev pub AreTooFew : Request → List ℕ → Type 0
AreTooFew Key unread = unread ≡ []
AreTooFew (Line n) unread = (list_all is_typed unread ≡ true) × (length unread < n)
AreTooFew (Read u) unread = ⊥
AreTooFew (Write u) unread = ⊥

-- the least room that is left before each act, by the room for all: any act fits into 65,536 bytes, which are half of a large room;
-- smaller rooms have a byte left
unfoldable pub least_room : (size : ℕ) → ℕ
least_room size = if nat_le 131072 size then 65536 else 1

-- why the call ended: the machine is halted; else, during a call, the word has returned; else no tick is left; else there is less than
-- the least room; else a key or a line is asked that doesn't exist; or a block is asked; or, in a small room, the last act showed more
-- bytes of memory than fit
abbrev pub HasStopped : (calling : Bool) → Stop → State → (unread : List ℕ) → (left size room : ℕ) → Type 0
HasStopped calling Halted s unread left size room = IsSome s.halt
HasStopped calling Returned s unread left size room = (calling ≡ true) × (is_returned s ≡ true)
HasStopped calling Limit s unread left size room = (s.halt ≡ None) × ((calling && is_returned s) ≡ false) × (left ≡ 0)
HasStopped calling Room s unread left size room = (s.halt ≡ None) × ((calling && is_returned s) ≡ false) × (0 < left) × (room < least_room size)
HasStopped calling Typed s unread left size room =
    (s.halt ≡ None) × (0 < left) × (least_room size ≤ room) × ((r : Request) × (asked_by s.wait ≡ Some r) × AreTooFew r unread)
HasStopped calling Block s unread left size room = (s.halt ≡ None) × (0 < left) × (least_room size ≤ room) × (asks_device (asked_by s.wait) ≡ true)
HasStopped calling (Span span) s unread left size room = (size < 131072) × (room < span.len)
HasStopped calling (LineLeft span) s unread left size room = (size < 131072) × (room < span.len + 1)

-- all that the call shows, by the new memory: what it puts into the room, and the bytes of memory that are left to the host,
-- a line's with a blank after them
abbrev pub told : Stop → (memory put : List ℕ) → List ℕ
told (Span span) memory put = put ++ bytes memory span.at span.len
told (LineLeft span) memory put = put ++ (bytes memory span.at span.len ++ 32 ∷ [])
told _ memory put = put

abbrev pub told_by : Option Stop → (memory put : List ℕ) → List ℕ
told_by None memory put = put
told_by (Some stop) memory put = told stop memory put

-- a step of a call drives on: the call has read so many of the typed bytes and shown so many bytes of its room before it, and after it
abbrev pub StepsOn : (calling : Bool) → (typed : List ℕ) → State → Course → (room : List ℕ) → State → Course → (room' : List ℕ) → Option Stop → Type 0
StepsOn calling typed s course room s' course' room' stop =
    DrivesOn calling course.faults s (drop course.read typed) (take course.shown room) course.left
    course'.faults s' (drop course'.read typed) (told_by stop s'.parts.memory (take course'.shown room')) course'.left

-- the same of a step that reads none of the typed bytes, whatever these are
abbrev pub GoesOn : (calling : Bool) → State → Course → (room : List ℕ) → State → Course → (room' : List ℕ) → Option Stop → Type 0
GoesOn calling s course room s' course' room' stop =
    (unread : List ℕ) → DrivesOn calling course.faults s unread (take course.shown room) course.left
    course'.faults s' unread (told_by stop s'.parts.memory (take course'.shown room')) course'.left

-- a call of so many ticks came so far: what it has read, shown and left, its faults, and why it ended there
abbrev pub HasDriven : (calling : Bool) → Forth83Faults → State → (typed : List ℕ) → (limit : ℕ) → State → Course → (room : List ℕ) → Stop → Type 0
HasDriven calling before old typed limit new course room stop =
    IsDriven calling before old typed limit course.faults new (drop course.read typed)
    (told stop new.parts.memory (take course.shown room)) course.left

-- it ended there by these
abbrev pub EndsAt : (calling : Bool) → Stop → State → (typed : List ℕ) → Course → (room : List ℕ) → Type 0
EndsAt calling stop s typed course room =
    HasStopped calling stop s (drop course.read typed) course.left (length room) (length room - course.shown)
