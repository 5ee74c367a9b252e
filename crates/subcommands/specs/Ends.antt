-- The ends of a run that isn't made, and the status of a refusal.
use Rattle.std.specs.Prelude.{◌≡◌, ◌⊎◌, ℕ, Bool, true, false, List, [], Option}
use Rattle.block_buffers.specs.DeviceCalls.{DeviceCall}
use Rattle.subcommands.specs.Lines.{PrintsOutOfMemory}

-- status 1, or 5 if the writer failed
abbrev pub IsRefusal : (status : ℕ) → (failed : Bool) → Type 0
IsRefusal status failed = (status ≡ 1) ⊎ ((status ≡ 5) × (failed ≡ true))

-- memory ran out before anything was run: reader and device are as they were, and that was printed
pub record IsUnrun {R D : Type 0} (status : ℕ) (failed : Bool) (reader reader' : R) (device device' : D) (old new : Option (List ℕ)) : Type 0 where
  pub reader_is : reader' ≡ reader
  pub device_is : device' ≡ device
  pub status_is : IsRefusal status failed
  pub printed : failed ≡ false → PrintsOutOfMemory status old new

-- the same of ends that were opened for it: nothing was typed, and no block asked for
pub record IsWanting (status : ℕ) (failed : Bool) (keys : List (Option ℕ)) (calls : List DeviceCall) (old new : Option (List ℕ)) : Type 0 where
  pub untyped : keys ≡ []
  pub uncalled : calls ≡ []
  pub status_is : IsRefusal status failed
  pub printed : failed ≡ false → PrintsOutOfMemory status old new
