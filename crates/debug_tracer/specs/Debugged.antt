-- Which word is traced.
use Rattle.std.specs.Prelude.{◌≡◌, ◌⊎◌, ℕ, ◌+◌, ◌==◌, List, if◌then◌else◌, Option, Result, Ok, Err, IsOk}
use Rattle.cells.specs.Cell.{wrap}
use Rattle.memory.specs.Bytes.{cell}
use Rattle.dictionary.specs.Extents.{extent_end}
use Rattle.dictionary.specs.Header.{compilation_address}
use Rattle.dictionary.specs.Order.{headers, is_beyond_limit}
use Rattle.dictionary.specs.Search.{Sought, Found, Nowhere, TooLong, sought}
use Rattle.block_buffers.specs.Disks.{Disk}
use Rattle.machine_parts.specs.Whole.{Whole}
use Rattle.inner_interpreter.specs.declared.stop.Stop.{Stop}
use Rattle.machine.specs.State.{State}
use Rattle.inner_interpreter.specs.Reports.{RunEnds, WriterEnd}
use Rattle.inner_interpreter.specs.Runs.{World}
use Rattle.inner_interpreter.specs.RunsTo.{RunsTraced}
use Rattle.inner_interpreter.specs.Tracing.{EndsTraced, EndsCutTraced, EndsFaultedTraced, EndsUntraced}
use Rattle.machine.specs.declared.extent.Extent.{Extent}
use Rattle.debug_tracer.specs.declared.fault.DebugFault.{DebugFault}
use Rattle.debug_tracer.specs.declared.fault.DebugFault.TheVariants as f
use Rattle.debug_tracer.specs.Lines.{line}

-- the thread of the word whose header is at l: from its parameter field to where the next header begins, or to DP
unfoldable pub thread_of : List ℕ → ℕ → Extent
thread_of m l =
    let from = wrap (compilation_address m l + 2) in record { from = from; end = extent_end m (headers m) from }

-- the thread that is traced, by what the search of a name came to, or why none is
abbrev pub thread_or_fault : List ℕ → Sought → Result Extent DebugFault
thread_or_fault m Nowhere = Err f.NotFound
thread_or_fault m TooLong = Err f.ChainTooLong
thread_or_fault m (Found l) =
    if is_beyond_limit m then Err f.ChainTooLong
    else if cell m (compilation_address m l) == 1 then Ok (thread_of m l) else Err f.NotColon

unfoldable pub debugged : List ℕ → List ℕ → Result Extent DebugFault
debugged m name = thread_or_fault m (sought m name)

-- the fault is the one for which no word is traced, or one could be, and memory ran out
abbrev pub IsFault : Result Extent DebugFault → DebugFault → Type 0
IsFault found fault = (found ≡ Err fault) ⊎ ((fault ≡ f.OutOfMemory) × IsOk found)

-- the lines of a machine whose memory was m at the start
abbrev pub line_from : List ℕ → Whole → List ℕ
line_from m = line m (headers m)

-- the word of this name was traced in a run from this state
pub record RunsDebugged (name : List ℕ) (old new : State) (ends ends' : RunEnds) (trace trace' : WriterEnd) (limit : ℕ) (why : Stop) : Type 0 where
  pub thread : Extent
  pub thread_is : debugged old.parts.memory name ≡ Ok thread
  pub run : RunsTraced thread (line_from old.parts.memory) old new ends ends' trace trace' limit why

-- the run from this world ends here with this stop, and the trace of the word of this name was sent
abbrev pub EndsDebugged : World → List ℕ → Option (List ℕ) → Option Disk → Option (List ℕ) → Option (List ℕ) → Option (List ℕ) → Stop → Type 0
EndsDebugged w name unread disk sent old new stop =
    (thread : Extent) → debugged w.state.parts.memory name ≡ Ok thread
    → (state : State) × EndsTraced thread (line_from w.state.parts.memory) w state unread disk sent old new stop

-- the writer failed in this run, and the trace of the word of this name was sent up to there
abbrev pub EndsCutDebugged : World → List ℕ → Option (List ℕ) → Option Disk → Option (List ℕ) → Option (List ℕ) → Option (List ℕ) → Type 0
EndsCutDebugged w name unread disk sent old new =
    (thread : Extent) → debugged w.state.parts.memory name ≡ Ok thread
    → (state : State) × EndsCutTraced thread (line_from w.state.parts.memory) w state unread disk sent old new

-- the reader failed in it
abbrev pub EndsFaultedDebugged : World → List ℕ → Option (List ℕ) → Option Disk → Option (List ℕ) → Option (List ℕ) → Option (List ℕ) → Type 0
EndsFaultedDebugged w name unread disk sent old new =
    (thread : Extent) → debugged w.state.parts.memory name ≡ Ok thread
    → (state : State) × EndsFaultedTraced thread (line_from w.state.parts.memory) w state unread disk sent old new

-- the trace's writer failed in it
abbrev pub EndsUntracedDebugged : World → List ℕ → Option (List ℕ) → Option Disk → Option (List ℕ) → Option (List ℕ) → Option (List ℕ) → Type 0
EndsUntracedDebugged w name unread disk sent old new =
    (thread : Extent) → debugged w.state.parts.memory name ≡ Ok thread
    → (state : State) × EndsUntraced thread (line_from w.state.parts.memory) w state unread disk sent old new
