-- A run of an image.
use Rattle.std.specs.Prelude.{◌≡◌, ℕ, Bool, true, false, Some}
use Rattle.image_loader.specs.Files.{Contents}
use Rattle.inner_interpreter.specs.Moves.{HasRun, Logs}
use Rattle.inner_interpreter.specs.Reports.{RunEnds}
use Rattle.inner_interpreter.specs.Runs.{stop_by}
use Rattle.inner_interpreter.specs.RunsTo.{RunsTo}
use Rattle.inner_interpreter.specs.declared.stop.Stop.{Stop}
use Rattle.inner_interpreter.specs.declared.stop.Stop.TheVariants.{InputFault, OutputFault}
use Rattle.machine.specs.State.{State, loaded_state}
use Rattle.subcommands.specs.Statuses.{status_of}

-- the machine that was loaded with an image, for as many blocks as the device has, ran for at most `limit` ticks, and stopped so
pub record RunsImage (image : Contents) (limit : ℕ) (why : Stop) (ends ends' : RunEnds) : Type 0 where
  pub state : State
  pub run : RunsTo (loaded_state image ends.device.block_count) state ends ends' limit why

-- the same, by the status of its stop
pub record RunsWith (image : Contents) (limit : ℕ) (status : ℕ) (ends ends' : RunEnds) : Type 0 where
  pub stop : Stop
  pub status_is : status ≡ status_of stop
  pub run : RunsImage image limit stop ends ends'

-- an image that was loaded, for a device of so many blocks, was run by its moves alone, and ended with this status; `reader` and `writer`:
-- whether these failed
pub record HasRunImage (image : Contents) (count limit : ℕ) (log log' : Logs) (reader writer : Bool) (status : ℕ) : Type 0 where
  pub stop : Stop
  pub status_is : status ≡ status_of stop
  pub state : State
  pub run : HasRun (loaded_state image count) state log log' limit stop
  pub ended : reader ≡ false → writer ≡ false → stop_by state.halt 0 ≡ Some stop
  pub output : writer ≡ true → stop ≡ OutputFault
  pub input : reader ≡ true → stop ≡ InputFault
