-- What `debug` prints, and the status with which a traced run ends.
use Rattle.std.specs.Prelude.{◌≡◌, ◌≢◌, ◌⊎◌, ℕ, Bool, false, true, List, Option, Some, Ok, Err, IsOk, codes}
use Rattle.block_buffers.specs.Disks.{Disk}
use Rattle.debug_tracer.specs.Debugged.{EndsCutDebugged, EndsDebugged, EndsFaultedDebugged, EndsUntracedDebugged, debugged, line_from}
use Rattle.debug_tracer.specs.declared.fault.DebugFault.{DebugFault}
use Rattle.debug_tracer.specs.declared.fault.DebugFault.TheVariants as debug
use Rattle.image_loader.specs.Files.{Contents, IsFile}
use Rattle.image_loader.specs.declared.fault.ImageFault.{ImageFault}
use Rattle.inner_interpreter.specs.Moves.{HasRun, Logs}
use Rattle.inner_interpreter.specs.Reports.{RunEnds, WriterEnd, logs_of}
use Rattle.inner_interpreter.specs.Runs.{World, stop_by}
use Rattle.inner_interpreter.specs.Tracing.{HasRunTraced}
use Rattle.inner_interpreter.specs.Worlds.{OfFile}
use Rattle.machine.specs.declared.extent.Extent.{Extent}
use Rattle.machine.specs.State.{State, loaded_state}
use Rattle.inner_interpreter.specs.declared.stop.Stop.{Stop}
use Rattle.subcommands.specs.Causes.{IsNoFile}
use Rattle.subcommands.specs.Ends.{IsRefusal}
use Rattle.subcommands.specs.Lines.{OfImageFile, PrintsNoImage, PrintsOutOfMemory, PrintsRefusal, memory_of}
use Rattle.subcommands.specs.Statuses.{status_of}

abbrev pub debug_cause : DebugFault → List ℕ
debug_cause debug.NotFound = codes "NotFound"
debug_cause debug.ChainTooLong = codes "ChainTooLong"
debug_cause debug.NotColon = codes "NotColon"
debug_cause debug.OutOfMemory = codes "OutOfMemory"

-- why a word isn't traced was printed
abbrev pub PrintsUntraced : (name : List ℕ) → DebugFault → (status : ℕ) → (old new : Option (List ℕ)) → Type 0
PrintsUntraced name debug.OutOfMemory status old new = PrintsOutOfMemory status old new
PrintsUntraced name why status old new = PrintsRefusal name (debug_cause why) status old new

-- if the bytes are an image's file, and a word of this name can't be traced: of why
abbrev pub OfUntraced : List ℕ → (name : List ℕ) → (DebugFault → Type 0) → Type 0
OfUntraced bytes name Of =
    (image : Contents) → IsFile bytes image → (why : DebugFault) → debugged (memory_of image) name ≡ Err why → Of why

-- if it can be traced
abbrev pub OfTraced : List ℕ → (name : List ℕ) → Type 0 → Type 0
OfTraced bytes name Of = (image : Contents) → IsFile bytes image → IsOk (debugged (memory_of image) name) → Of

-- a reader, a device and a trace are as they were
abbrev pub AreKept : {R D T : Type 0} → (reader reader' : R) → (device device' : D) → (trace trace' : T) → Type 0
AreKept reader reader' device device' trace trace' = (reader' ≡ reader) × (device' ≡ device) × (trace' ≡ trace)

-- memory ran out before anything was run: they are kept, and the status says so
abbrev pub IsUnmarked : Type 0 → (status : ℕ) → (failed : Bool) → Type 0
IsUnmarked Kept status failed = Kept × IsRefusal status failed

-- an image that was loaded, for a device of so many blocks, was run, and the trace of the word of this name was sent
pub record HasTracedFrom (image : Contents) (name : List ℕ) (blocks : ℕ) (log log' : Logs) (limit : ℕ) (reader writer trace : Bool) (stop : Stop) (old new : Option (List ℕ)) : Type 0 where
  pub state : State
  pub run : HasRun (loaded_state image blocks) state log log' limit stop
  pub traced : (thread : Extent) → debugged (memory_of image) name ≡ Ok thread
      → HasRunTraced thread (line_from (memory_of image)) (loaded_state image blocks) state log log' limit stop old new
  pub ended : reader ≡ false → writer ≡ false → trace ≡ false → stop_by state.halt 0 ≡ Some stop

-- the same, with the status of its stop
pub record HasTracedWith (status : ℕ) (image : Contents) (name : List ℕ) (blocks : ℕ) (log log' : Logs) (limit : ℕ) (reader writer trace : Bool) (old new : Option (List ℕ)) : Type 0 where
  pub stop : Stop
  pub status_is : status ≡ status_of stop
  pub run : HasTracedFrom image name blocks log log' limit reader writer trace stop old new

-- the run ends here, with the status of its stop, and the trace of the word of this name was sent
pub record EndsTracedWith (status : ℕ) (w : World) (name : List ℕ) (unread : Option (List ℕ)) (disk : Option Disk) (sent : Option (List ℕ)) (old new : Option (List ℕ)) : Type 0 where
  pub stop : Stop
  pub status_is : status ≡ status_of stop
  pub ends : EndsDebugged w name unread disk sent old new stop

-- of each world in which a run of an image's file begins, if reader, device and writer report what they hold
abbrev pub OfRun : (bytes : List ℕ) → RunEnds → (limit : ℕ) → (World → Type 0) → Type 0
OfRun bytes ends limit Of = OfFile bytes ends.reader.unread ends.device.disk ends.writer.sent limit Of

-- what `debug` did with the bytes of an image's file and the name of a word: its status, and its ends and its trace before and after.
-- `Kept`: reader, device and trace are as they were
pub record DebugsFile (bytes name : List ℕ) (limit status : ℕ) (ends ends' : RunEnds) (trace trace' : WriterEnd) (Kept : Type 0) : Type 0 where
  -- if the bytes are an image's file, the word can be traced, memory is found and no end fails, the status, the output, the unread
  -- bytes and the blocks are those of the written rounds, and the trace is that of these rounds
  pub ran : status ≢ 1 → ends'.reader.failed ≡ false → ends'.writer.failed ≡ false → trace'.failed ≡ false → OfRun bytes ends limit
      (λ w. EndsTracedWith status w name ends'.reader.unread ends'.device.disk ends'.writer.sent trace.sent trace'.sent)
  -- if the word can't be traced, it is printed why, or that there is no memory to find that, and nothing is run
  pub untraced : ends'.writer.failed ≡ false → OfUntraced bytes name (λ why.
      PrintsRefusal name (debug_cause why) status ends.writer.sent ends'.writer.sent ⊎ PrintsOutOfMemory status ends.writer.sent ends'.writer.sent)
  pub unmarked : OfUntraced bytes name (λ _. Kept)
  -- if the bytes are no image's file, that is printed, and nothing is run
  pub refused : ends'.writer.failed ≡ false → PrintsNoImage bytes status ends.writer.sent ends'.writer.sent
  pub unrun : (fault : ImageFault) → IsNoFile bytes fault → Kept
  -- status 1 if a word can be traced is lack of memory, which is printed; with status 1 nothing is run
  pub wanting : ends'.writer.failed ≡ false → OfTraced bytes name (status ≡ 1 → PrintsOutOfMemory status ends.writer.sent ends'.writer.sent)
  pub untouched : status ≡ 1 → Kept
  -- an end that fails gives status 5, and nothing else does; reader and writer do not both fail in one run
  pub output : ends.writer.failed ≡ false → ends'.writer.failed ≡ true → status ≡ 5
  pub input : ends.reader.failed ≡ false → ends'.reader.failed ≡ true → status ≡ 5
  pub lines : trace.failed ≡ false → trace'.failed ≡ true → status ≡ 5
  pub told : ends.writer.failed ≡ false → ends'.writer.failed ≡ false → ends'.reader.failed ≡ false → trace.failed ≡ false → trace'.failed ≡ false
      → status ≢ 5
  pub one : ends.reader.failed ≡ false → ends'.reader.failed ≡ true → ends'.writer.failed ≡ ends.writer.failed
  -- if no writer fails, all that was printed was passed on, and of a run whose reader does not fail all that was traced
  pub passed : ends'.writer.failed ≡ false → trace'.failed ≡ false
      → (ends'.writer.passed ≡ true) × (status ≢ 1 → ends'.reader.failed ≡ false → trace'.passed ≡ true)
  -- if the writer fails, some first rounds were made and traced, up to the first that shows more than was sent; or memory ran out, and
  -- nothing was run
  pub cut : ends.writer.failed ≡ false → ends'.writer.failed ≡ true → OfRun bytes ends limit
      (λ w. EndsCutDebugged w name ends'.reader.unread ends'.device.disk ends'.writer.sent trace.sent trace'.sent ⊎ IsUnmarked Kept status true)
  -- if the reader fails, some first rounds were made and traced, and then the machine learned of it
  pub faulted : ends.reader.failed ≡ false → ends'.reader.failed ≡ true → OfRun bytes ends limit
      (λ w. EndsFaultedDebugged w name ends'.reader.unread ends'.device.disk ends'.writer.sent trace.sent trace'.sent)
  -- if a line can't be written into the trace, some first rounds were made, and the line of the tick that comes next was cut
  pub unfinished : trace.failed ≡ false → trace'.failed ≡ true → OfRun bytes ends limit
      (λ w. EndsUntracedDebugged w name ends'.reader.unread ends'.device.disk ends'.writer.sent trace.sent trace'.sent)
  -- whatever the ends are, the machine that was loaded moved by ticks and answers alone, and the trace got the lines of these moves; or
  -- memory ran out
  pub moved : OfImageFile bytes (λ file. IsOk (debugged (memory_of file) name) →
      HasTracedWith status file name ends.device.block_count (logs_of ends) (logs_of ends') limit ends'.reader.failed ends'.writer.failed
      trace'.failed trace.sent trace'.sent ⊎ IsUnmarked Kept status ends'.writer.failed)
