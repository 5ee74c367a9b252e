-- What loading screens on an image answers, whatever the device is: by the moves that the machine made.
use Rattle.std.specs.Prelude.{◌≡◌, ◌<◌, ℕ, zero, suc, ◌+◌, ◌-◌, ◌==◌, ◌&&◌, ◌⊎◌, nat_le, if◌then◌else◌, Bool, true, false, IsFalse, List, [], ◌∷◌, ◌++◌, Option, None, MatchOption, Result, Ok, Err}
use Rattle.image_loader.specs.Files.{Contents}
use Rattle.memory.specs.Bytes.{front_put, zeros}
use Rattle.machine_parts.specs.declared.faults.TheConstants.{BLOCK_ZERO}
use Rattle.machine_parts.specs.declared.parts.Request.TheVariants.{Read, Write}
use Rattle.machine.specs.declared.act.Event.{Event}
use Rattle.machine.specs.declared.act.Event.TheVariants as event
use Rattle.machine.specs.State.{State, loaded_state}
use Rattle.machine.specs.Tick.{running, ticked}
use Rattle.machine.specs.Answer.{answer_of}
use Rattle.block_buffers.specs.DeviceCalls.{DeviceCall}
use Rattle.inner_interpreter.specs.Moves.{Turn, Tick, Answer, Enter, after_turn, Accepts, device_call, is_entry}
use Rattle.metacompiler.specs.Rounds.{Stop, Ended, Limit, is_end, stop_by, entered}
use Rattle.metacompiler.specs.Loaded as loaded
use Rattle.metacompiler.specs.Loaded.{LoadFault, Asked, Fault, Halted, OutOfMemory, interpret_in, answered, fault_of, IsSaved}

-- how far loading has come: the machine, the calls that its device was given, and how many ticks are left
pub record Stage : Type 0 where
  pub machine : State
  pub calls : List DeviceCall
  pub left : ℕ

abbrev pub stage : State → List DeviceCall → ℕ → Stage
stage s calls left = record { machine = s; calls = calls; left = left }

-- after a move: a tick, or an answer, which may come from a call
abbrev pub behind : Stage → Turn → Stage
behind p Tick = stage (after_turn p.machine Tick) p.calls (p.left - 1)
behind p (Answer reply) = stage (after_turn p.machine (Answer reply)) (p.calls ++ device_call p.machine (Answer reply)) p.left
behind p (Enter word) = stage (after_turn p.machine (Enter word)) p.calls p.left

-- why rounds stop after a tick with this event, if they do: when the device is asked they go on
abbrev pub stop_by_tick : State → Event → Option Stop
stop_by_tick s (event.Ask (Read u)) = None
stop_by_tick s (event.Ask (Write u)) = None
stop_by_tick s e = stop_by s e

abbrev pub stop_behind : State → Turn → Option Stop
stop_behind s Tick = let t = ticked s.parts in stop_by_tick t.0 t.1.event
stop_behind s (Answer reply) = let t = answer_of s reply in stop_by t.0 t.1.event
stop_behind s (Enter word) = None

-- these moves are the rounds of a screen, which come from p to q and stop there for this: while a tick is left the
-- machine makes a tick or takes an answer, up to the first after which they stop; no word is entered
unfoldable pub AreRounds : List Turn → (p q : Stage) → Stop → Type 0
AreRounds [] p q y = (p.left ≡ 0) × (q ≡ p) × (y ≡ Limit)
AreRounds (t ∷ ts) p q y =
    (0 < p.left) × (is_entry t ≡ false) × Accepts p.machine t
    × MatchOption (stop_behind p.machine t) (AreRounds ts (behind p t) q y) (λ z. (ts ≡ []) × (q ≡ behind p t) × (y ≡ z))

-- so the rounds of a screen come from p to q
pub record ComesTo (p q : Stage) (y : Stop) : Type 0 where
  pub moves : List Turn
  pub rounds : AreRounds moves p q y

-- the machine is entered to read a screen
abbrev pub at_screen : (word screen : ℕ) → Stage → Stage
at_screen word screen p = stage (running (entered p.machine.parts word screen)) p.calls p.left

-- so many screens from a number on are read in turn, up to the first that doesn't end
unfoldable pub AreRead : (word count screen : ℕ) → (p q : Stage) → Stop → Type 0
AreRead word zero screen p q y = (q ≡ p) × (y ≡ Ended)
AreRead word (suc more) screen p q y =
    (IsFalse (is_end y) × ComesTo (at_screen word screen p) q y)
    ⊎ ((r : Stage) × ComesTo (at_screen word screen p) r Ended × AreRead word more (screen + 1) r q y)

-- the word that each screen is read by, or why none is read
abbrev pub word_for : (from to : ℕ) → Result ℕ LoadFault → Result ℕ LoadFault
word_for from to (Ok word) = if (from == 0) && nat_le from to then Err (Fault BLOCK_ZERO) else Ok word
word_for from to (Err c) = Err c

-- the same in a machine's memory
abbrev pub word_on : State → (from to : ℕ) → Result ℕ LoadFault
word_on s from to = word_for from to (interpret_in s.parts.memory)

-- and in an image's
abbrev pub word_of : Contents → (from to : ℕ) → Result ℕ LoadFault
word_of image from to = word_for from to (interpret_in (front_put image.bytes zeros))

-- screens were read by this word, and what is answered follows from where that stopped
pub record HasRead (word entry from to : ℕ) (p : Stage) (calls : List DeviceCall) (result : Result Contents LoadFault)
    : Type 0 where
  pub machine : State
  pub left : ℕ
  pub stop : Stop
  pub read : AreRead word (to + 1 - from) from p (stage machine calls left) stop
  pub answer : IsSaved (answered entry p.machine.parts.memory machine.parts stop) result

-- whether the rounds of a screen stopped before its end
abbrev pub is_stopped : Result Contents LoadFault → Bool
is_stopped (Err (Fault f)) = true
is_stopped (Err Halted) = true
is_stopped (Err Asked) = true
is_stopped (Err loaded.Limit) = true
is_stopped _ = false

-- if screens that are read by this word stop before the end of one, the machine is as its rounds left it
unfoldable pub HasStopped : (word from to : ℕ) → (p : Stage) → State → (calls : List DeviceCall) → Result Contents LoadFault → Type 0
HasStopped word from to p machine calls result =
    is_stopped result ≡ true → (left : ℕ) × (stop : Stop)
    × AreRead word (to + 1 - from) from p (stage machine calls left) stop × IsFalse (is_end stop) × (result ≡ Err (fault_of stop))

-- so it is on an image, with at most so many ticks; or memory for the machine was not found, and no call was made
abbrev pub HasLoaded : (word : ℕ) → Contents → (count from to ticks : ℕ) → (calls calls' : List DeviceCall) → Result Contents LoadFault → Type 0
HasLoaded word image count from to ticks calls calls' result =
    HasRead word image.entry from to (stage (loaded_state image count) calls ticks) calls' result
    ⊎ ((result ≡ Err OutOfMemory) × (calls' ≡ calls))
