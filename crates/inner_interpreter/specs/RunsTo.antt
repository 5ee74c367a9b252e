-- What a run did, by its machine and its ends before and after it.
use Rattle.std.specs.Prelude.{◌≡◌, ◌≢◌, ◌↔◌, ℕ, List, Some, true, false}
use Rattle.inner_interpreter.specs.declared.stop.Stop.{Stop}
use Rattle.inner_interpreter.specs.declared.stop.Stop.TheVariants as stop
use Rattle.inner_interpreter.specs.Moves.{HasRun}
use Rattle.inner_interpreter.specs.Reports.{RunEnds, WriterEnd, logs_of}
use Rattle.inner_interpreter.specs.Runs.{World, stop_by}
use Rattle.inner_interpreter.specs.Served.{HasNotFailed}
use Rattle.inner_interpreter.specs.Tracing.{EndsTraced, EndsCutTraced, EndsFaultedTraced, EndsUntraced, HasRunTraced}
use Rattle.inner_interpreter.specs.Worlds.{IsAt, Ends, EndsCut, EndsFaulted}
use Rattle.machine.specs.declared.extent.Extent.{Extent}
use Rattle.machine.specs.State.{State}
use Rattle.machine_parts.specs.Whole.{Whole}

-- a run of at most `limit` ticks begins in this world: machine, reader, device and writer are as the world says, and report it
abbrev pub BeginsAt : World → State → RunEnds → (limit : ℕ) → Type 0
BeginsAt w s ends limit = IsAt w s ends.reader.unread ends.device.disk ends.writer.sent limit

-- what the stop of a run says of its ends
pub record TellsEnds (old : State) (ends ends' : RunEnds) (why : Stop) : Type 0 where
  -- it stops for the writer exactly if the writer fails
  pub output : ends.writer.failed ≡ false → (why ≡ stop.OutputFault) ↔ (ends'.writer.failed ≡ true)
  -- if the reader fails, it stops for the reader; reader and writer do not both fail in one run
  pub input : ends.reader.failed ≡ false → ends'.reader.failed ≡ true → why ≡ stop.InputFault
  pub one : ends.reader.failed ≡ false → ends'.reader.failed ≡ true → ends'.writer.failed ≡ ends.writer.failed
  -- unless the machine had halted for a failed reader before, it stops for the reader only if the reader failed
  pub told : HasNotFailed old → ends'.reader.failed ≡ false → why ≢ stop.InputFault

-- a run of at most `limit` ticks took a machine from one state to another, and stopped so
pub record RunsTo (old new : State) (ends ends' : RunEnds) (limit : ℕ) (why : Stop) : Type 0 where
  -- if no end fails, and all report their bytes, it ends as the written rounds do
  pub whole : ends'.reader.failed ≡ false → ends'.writer.failed ≡ false → (w : World) → BeginsAt w old ends limit
      → Ends w new ends'.reader.unread ends'.device.disk ends'.writer.sent why
  -- if no end fails, the stop is the cause for which the machine halted, or else the limit
  pub ended : ends'.reader.failed ≡ false → ends'.writer.failed ≡ false → stop_by new.halt 0 ≡ Some why
  pub ends_told : TellsEnds old ends ends' why
  -- if the writer fails, some first rounds were made
  pub cut : ends.writer.failed ≡ false → ends'.writer.failed ≡ true → (w : World) → BeginsAt w old ends limit
      → EndsCut w new ends'.reader.unread ends'.device.disk ends'.writer.sent
  -- if the reader fails, some first rounds were made, and then the machine learned of it
  pub faulted : ends.reader.failed ≡ false → ends'.reader.failed ≡ true → (w : World) → BeginsAt w old ends limit
      → EndsFaulted w new ends'.reader.unread ends'.device.disk ends'.writer.sent
  -- if the writer does not fail, all that was sent was passed on
  pub passed : ends'.writer.failed ≡ false → ends'.writer.passed ≡ true
  -- whatever the ends are, the machine moved by ticks and answers alone, and its ends gave and took just what these moves name
  pub moved : HasRun old new (logs_of ends) (logs_of ends') limit why
  -- there is no trace that could fail
  pub untraced : why ≢ stop.TraceFault

-- the same of a run that sends a line to a trace before each tick whose token is taken through ip in the extent
pub record RunsTraced (extent : Extent) (line : Whole → List ℕ) (old new : State) (ends ends' : RunEnds) (trace trace' : WriterEnd) (limit : ℕ) (why : Stop) : Type 0 where
  -- if no end fails, and all but the trace report their bytes, it ends as the written rounds do, and the trace is that of these rounds
  pub whole : ends'.reader.failed ≡ false → ends'.writer.failed ≡ false → trace'.failed ≡ false → (w : World) → BeginsAt w old ends limit
      → EndsTraced extent line w new ends'.reader.unread ends'.device.disk ends'.writer.sent trace.sent trace'.sent why
  -- if no end fails, the stop is the cause for which the machine halted, or else the limit
  pub ended : ends'.reader.failed ≡ false → ends'.writer.failed ≡ false → trace'.failed ≡ false → stop_by new.halt 0 ≡ Some why
  pub ends_told : TellsEnds old ends ends' why
  -- it stops for the trace exactly if the trace's writer fails
  pub trace_told : trace.failed ≡ false → (why ≡ stop.TraceFault) ↔ (trace'.failed ≡ true)
  -- if the writer fails, some first rounds were made and traced
  pub cut : ends.writer.failed ≡ false → ends'.writer.failed ≡ true → (w : World) → BeginsAt w old ends limit
      → EndsCutTraced extent line w new ends'.reader.unread ends'.device.disk ends'.writer.sent trace.sent trace'.sent
  -- if the reader fails, some first rounds were made and traced, and then the machine learned of it
  pub faulted : ends.reader.failed ≡ false → ends'.reader.failed ≡ true → (w : World) → BeginsAt w old ends limit
      → EndsFaultedTraced extent line w new ends'.reader.unread ends'.device.disk ends'.writer.sent trace.sent trace'.sent
  -- if the trace's writer fails, some first rounds were made, and the line of the tick that comes next was cut
  pub untraced : trace.failed ≡ false → trace'.failed ≡ true → (w : World) → BeginsAt w old ends limit
      → EndsUntraced extent line w new ends'.reader.unread ends'.device.disk ends'.writer.sent trace.sent trace'.sent
  -- if no writer fails, all that was sent was passed on
  pub passed : ends'.writer.failed ≡ false → trace'.failed ≡ false
      → (ends'.writer.passed ≡ true) × (ends'.reader.failed ≡ false → trace'.passed ≡ true)
  -- whatever the ends are, the machine moved by ticks and answers alone, its ends gave and took just what these moves name, and the
  -- trace got the lines of these moves
  pub moved : HasRunTraced extent line old new (logs_of ends) (logs_of ends') limit why trace.sent trace'.sent
