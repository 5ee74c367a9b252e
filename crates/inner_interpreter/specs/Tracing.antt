-- Tracing a run: a line for each tick whose token is taken through ip in an extent.
use Rattle.std.specs.Prelude.{◌≡◌, ◌⊎◌, true, ℕ, zero, suc, List, [], ◌∷◌, ◌++◌, Option, None, Bool, is_none, IsSome, ◌&&◌, if◌then◌else◌}
use Rattle.std.specs.Io.KnownBytes.{Appends}
use Rattle.block_buffers.specs.Disks.{Disk}
use Rattle.machine_parts.specs.Whole.{Whole, at_place}
use Rattle.inner_interpreter.specs.declared.stop.Stop.{Stop}
use Rattle.inner_interpreter.specs.declared.stop.Stop.TheVariants as stop
use Rattle.machine.specs.declared.extent.Extent.{Extent}
use Rattle.machine.specs.State.{State}
use Rattle.machine.specs.Answer.{asked_by}
use Rattle.machine.specs.Met.{is_met}
use Rattle.inner_interpreter.specs.Moves.{Turn, Tick, after_turn, AreAccepted, words_in, ticks_in, Logs, HasRun}
use Rattle.inner_interpreter.specs.Runs.{World, rounds, stops}
use Rattle.inner_interpreter.specs.Worlds.{IsAt, IsCut, Ends, EndsCut, EndsFaulted}

-- the line of a tick says nothing of where memory lies
abbrev pub IsPlaceless : (Whole → List ℕ) → Type 0
IsPlaceless line = (p : Option ℕ) (s : Whole) → line (at_place p s) ≡ line s

-- the line of a state in which no request waits and a token of the extent comes next
abbrev pub line_next : Extent → (Whole → List ℕ) → State → List ℕ
line_next extent line s = if is_none (asked_by s.wait) && is_met extent s.parts then line s.parts else []

-- the trace of moves: before each tick the line of the state from which it is made
unfoldable pub lines_by : Extent → (Whole → List ℕ) → State → List Turn → List ℕ
lines_by extent line s [] = []
lines_by extent line s (Tick ∷ ts) = line_next extent line s ++ lines_by extent line (after_turn s Tick) ts
lines_by extent line s (t ∷ ts) = lines_by extent line (after_turn s t) ts

-- of so many ticks, with the answers between them, only the first may have a line
abbrev pub AddsFirst : Extent → State → (ticks : ℕ) → Type 0
AddsFirst extent s ticks =
    (turns : List Turn) → AreAccepted s turns → words_in turns ≡ [] → ticks_in turns ≡ ticks
    → (line : Whole → List ℕ) → lines_by extent line s turns ≡ line_next extent line s

-- a run came to where it stopped, and the trace of its moves was sent; if a line couldn't be sent, also a front of the line of the
-- tick that comes next
pub record HasRunTraced (extent : Extent) (line : Whole → List ℕ) (old new : State) (log log' : Logs) (limit : ℕ) (why : Stop) (told told' : Option (List ℕ)) : Type 0 where
  pub run : HasRun old new log log' limit why
  pub front : List ℕ
  pub back : List ℕ
  pub trace_is : Appends told told' (lines_by extent line old run.moved.turns ++ front)
  pub last : (front ≡ []) ⊎ ((why ≡ stop.TraceFault) × (line_next extent line new ≡ front ++ back))

-- the same, if the run goes on from there: the state is followed by a tick
unfoldable pub traced_line : Extent → (Whole → List ℕ) → World → List ℕ
traced_line extent line w = if is_none (stops w) then line_next extent line w.state else []

-- the trace of a run: the lines of its first n states, in their order
unfoldable pub trace : Extent → (Whole → List ℕ) → ℕ → World → List ℕ
trace extent line zero w = []
trace extent line (suc n) w = trace extent line n w ++ traced_line extent line (rounds n w)

-- so many rounds add to the trace just the line of the tick that comes first
abbrev pub AddsLine : Extent → ℕ → World → Type 0
AddsLine extent n w = (line : Whole → List ℕ) → trace extent line n w ≡ traced_line extent line w

-- some rounds lead here, and only the first may begin where a token of the extent comes next
abbrev pub Reached : Extent → World → State → Option (List ℕ) → Option Disk → Option (List ℕ) → ℕ → Type 0
Reached extent w s unread disk sent left = (n : ℕ) × AddsLine extent n w × IsAt (rounds n w) s unread disk sent left

-- the same, and after them the writer failed
abbrev pub ReachedCut : Extent → World → State → Option (List ℕ) → Option Disk → Option (List ℕ) → Type 0
ReachedCut extent w s unread disk sent = (n : ℕ) × AddsLine extent n w × IsCut n w s unread disk sent

-- the run stops here after some rounds, and its trace was sent
pub record EndsTraced (extent : Extent) (line : Whole → List ℕ) (w : World) (state : State) (unread : Option (List ℕ)) (disk : Option Disk) (sent : Option (List ℕ)) (old new : Option (List ℕ)) (stop : Stop) : Type 0 where
  pub ends : Ends w state unread disk sent stop
  pub trace_is : Appends old new (trace extent line ends.count w)

-- a writer failed in this run, after some first rounds, whose trace was sent
pub record EndsCutTraced (extent : Extent) (line : Whole → List ℕ) (w : World) (state : State) (unread : Option (List ℕ)) (disk : Option Disk) (sent : Option (List ℕ)) (old new : Option (List ℕ)) : Type 0 where
  pub cut : EndsCut w state unread disk sent
  pub trace_is : Appends old new (trace extent line cut.count w)

-- a reader failed in this run, after some first rounds, whose trace was sent
pub record EndsFaultedTraced (extent : Extent) (line : Whole → List ℕ) (w : World) (state : State) (unread : Option (List ℕ)) (disk : Option Disk) (sent : Option (List ℕ)) (old new : Option (List ℕ)) : Type 0 where
  pub faulted : EndsFaulted w state unread disk sent
  pub trace_is : Appends old new (trace extent line faulted.count w)

-- no request waits, and a token of the extent comes next
abbrev pub IsDue : Extent → State → Type 0
IsDue extent s = (asked_by s.wait ≡ None) × (is_met extent s.parts ≡ true)

-- the trace's writer failed in this run: some first rounds were made, whose trace was sent whole, and a front of the line of
-- the tick that comes next; or the run had stopped, and what was sent wasn't passed on
pub record EndsUntraced (extent : Extent) (line : Whole → List ℕ) (w : World) (state : State) (unread : Option (List ℕ)) (disk : Option Disk) (sent : Option (List ℕ)) (old new : Option (List ℕ)) : Type 0 where
  pub count : ℕ
  pub at : IsAt (rounds count w) state unread disk sent (rounds count w).left
  pub front : List ℕ
  pub back : List ℕ
  pub line_is : traced_line extent line (rounds count w) ≡ front ++ back
  pub trace_is : Appends old new (trace extent line count w ++ front)
  pub due : IsSome (stops (rounds count w)) ⊎ IsDue extent state

-- some rounds lead here, and their trace was sent
abbrev pub MadeTraced : Extent → (Whole → List ℕ) → World → State → Option (List ℕ) → Option Disk → Option (List ℕ) → ℕ → Option (List ℕ) → Option (List ℕ) → Type 0
MadeTraced extent line w s unread disk sent left old new =
    (n : ℕ) × IsAt (rounds n w) s unread disk sent left × Appends old new (trace extent line n w)

-- a run ended with its stop, or the writer or the trace's writer failed at last
abbrev pub Finishes : Stop → Stop → Bool → Bool → Bool → Bool → Type 0
Finishes result wanted writer writer' traces traces' =
    ((result ≡ wanted) × (writer' ≡ writer) × (traces' ≡ traces))
    ⊎ (((result ≡ stop.OutputFault) × (writer' ≡ true) × (traces' ≡ traces))
    ⊎ ((result ≡ stop.TraceFault) × (writer' ≡ writer) × (traces' ≡ true)))
