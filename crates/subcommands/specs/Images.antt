-- Files of images that are built.
use Rattle.std.specs.Prelude.{◌⊎◌, ℕ, List, Vec}
use Rattle.std.specs.declared.alloc.Global.{Global}
use Rattle.memory.specs.Bytes.{IsCount, limit_of}
use Rattle.machine.specs.State.{loaded_state}
use Rattle.image_builder.specs.Items.{Items}
use Rattle.block_buffers.specs.DeviceCalls.{DeviceCall}
use Rattle.block_buffers.specs.Disks.{Disk}
use Rattle.image_loader.specs.Files.{Contents, IsWritten}
use Rattle.image_builder.specs.Sources.{Done, IsBuiltOf, IsBuiltOfRead, IsRefused}
use Rattle.image_builder.specs.declared.cause.BuildFault.{BuildFault}

-- the file is that of the image for so many buffers that is built of the screens from..to
pub record IsBuiltFile (count : ℕ) (d : Disk) (from to : ℕ) (done : Done) (file : Vec ℕ Global) : Type 0 where
  pub image : Contents
  pub is_built : IsBuiltOf count d from to image done
  pub is_file : IsWritten file.items image

-- the screens from..to of a device of so many blocks were read, and the file is that of the image of their pages
pub record IsFileOfRead (buffers count from to : ℕ) (file : Vec ℕ Global) (calls calls' : List DeviceCall) : Type 0 where
  pub image : Contents
  pub is_built : IsBuiltOfRead buffers count from to image calls calls'
  pub is_file : IsWritten file.items image

-- so much was done for an image for so many buffers that is built of the screens from..to, or for refusing them
abbrev pub IsBuilding : (count : ℕ) → Disk → (from to : ℕ) → Done → Type 0
IsBuilding count d from to done =
    ((image : Contents) × IsBuiltOf count d from to image done) ⊎ ((fault : BuildFault) × IsRefused (limit_of count) d from to fault done)

-- of the items of each image that is built of screens, and the memory to which it is loaded
abbrev pub OfBuilt : (Items → List ℕ → Type 0) → Type 0
OfBuilt Of =
    (buffers : ℕ) → IsCount buffers → (d : Disk) (from to count : ℕ) (image : Contents) (done : Done)
    (b : IsBuiltOf buffers d from to image done) → Of b.items (loaded_state image count).parts.memory
