-- An image that is served: what becomes of the machine, the blocks, the frames and the replies.
use Rattle.std.specs.Prelude.{◌≡◌, ℕ, List, ◌++◌, ◌==◌, if◌then◌else◌}
use Rattle.block_buffers.specs.DeviceCalls.{DeviceCall}
use Rattle.image_loader.specs.Files.{Contents}
use Rattle.inner_interpreter.specs.Moves.{Logs}
use Rattle.machine.specs.State.{State, loaded_state}
use Rattle.machine_parts.specs.Whole.{Whole}
use Rattle.serving.specs.Saving.{AreSaved}
use Rattle.serving.specs.Taking.{HasServed}
use Rattle.serving.specs.declared.serving.Ending.{Ending}
use Rattle.serving.specs.declared.serving.Ending.TheVariants as ending

-- the status: 5 if an end failed; otherwise 1 if a block could not be written, and 0
abbrev pub status_by : Ending → (lost : ℕ) → ℕ
status_by ending.InputFault lost = 5
status_by ending.OutputFault lost = 5
status_by _ lost = if lost == 0 then 0 else 1

-- the updated buffers are written at the end; the request to end has written them before
abbrev pub SavesAtEnd : Ending → (count : ℕ) → Whole → (calls calls' : List DeviceCall) → (status : ℕ) → Type 0
SavesAtEnd ending.Quit count s calls calls' status = (calls' ≡ calls) × (status ≡ 0)
SavesAtEnd how count s calls calls' status =
    (given : List DeviceCall) × (lost : ℕ) × (calls' ≡ calls ++ given) × AreSaved count s s.buffers given lost × (status ≡ status_by how lost)

-- the image was loaded for 65,536 blocks, of which the device has so many, and the requests of a host were served
pub record ServesImage (image : Contents) (count : ℕ) (log log' : Logs) (status : ℕ) : Type 0 where
  pub how : Ending
  pub state : State
  pub calls : List DeviceCall
  pub served : HasServed how count (loaded_state image 65536) state log.calls calls log.reads log'.reads log.sent log'.sent
  pub saved : SavesAtEnd how count state.parts calls log'.calls status
