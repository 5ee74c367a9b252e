-- The resident compiler agrees: what is claimed of screens that hold colon definitions, on an image whose memory is
-- resident.
use Rattle.std.specs.Prelude.{◌<◌, ℕ, List, [], ◌∷◌, length, Result, Err, IsOk}
use Rattle.block_buffers.specs.Disks.{Disk}
use Rattle.image_loader.specs.Files.{Contents, IsImage}
use Rattle.memory.specs.Bytes.{cell, limit_of}
use Rattle.memory.specs.declared.system.TheConstants.{CONTEXT, CURRENT}
use Rattle.machine.specs.State.{loaded_state}
use Rattle.image_builder.specs.Sources.{source_of, AreThere}
use Rattle.metacompiler.specs.Loop.{Words}
use Rattle.metacompiler.specs.Resident.{Resident}
use Rattle.metacompiler.specs.Sources.{ColonDefinition, laid_all, AreDefined}
use Rattle.metacompiler.specs.Turning.{IsReliable}
use Rattle.metacompiler.specs.Loaded.{LoadFault, OutOfMemory, loaded_by_machine, IsLaidOr}

-- the memory that an image is loaded to
abbrev pub memory_of : Contents → Disk → List ℕ
memory_of image d = (loaded_state image (length d.blocks)).parts.memory

-- the vocabulary that is searched first after these definitions: CURRENT's, if there is one
abbrev pub context_behind : List ℕ → List ColonDefinition → ℕ
context_behind m [] = cell m CONTEXT
context_behind m (e ∷ es) = cell m CURRENT

-- an image can compile screens of a device: its memory is resident, these definitions are all that the screens hold,
-- and no coming call of the device fails
pub record CanCompile (image : Contents) (d : Disk) (from to : ℕ) (ws : Words) (a : ℕ) (es : List ColonDefinition)
    : Type 0 where
  pub image_is : IsImage image
  pub resident : Resident (limit_of image.buffers) ws a (memory_of image d)
  pub some : 0 < from
  pub there : AreThere d from to
  pub reliable : IsReliable d
  pub source : AreDefined (limit_of image.buffers) (memory_of image d) (source_of d from to) es

-- Then the new image has the memory in which they are written, or there were too few ticks.
abbrev pub Agree : Type 0
Agree =
    (image : Contents) (d : Disk) (from to ticks : ℕ) (ws : Words) (a : ℕ) (es : List ColonDefinition) →
    CanCompile image d from to ws a es → let m = memory_of image d in
    IsLaidOr image (laid_all m es) (context_behind m es) (loaded_by_machine image d from to ticks).answer

-- With enough ticks the image is answered.
abbrev pub Enough : Type 0
Enough =
    (image : Contents) (d : Disk) (from to : ℕ) (ws : Words) (a : ℕ) (es : List ColonDefinition) →
    CanCompile image d from to ws a es
    → (least : ℕ) × ((ticks : ℕ) → least < ticks → IsOk (loaded_by_machine image d from to ticks).answer)

-- So what is answered is that image, or that there were too few ticks, or that memory was not found.
abbrev pub IsCompiledAs : Contents → List ℕ → (context : ℕ) → Result Contents LoadFault → Type 0
IsCompiledAs old n context (Err OutOfMemory) = Unit {0}
IsCompiledAs old n context result = IsLaidOr old n context result

abbrev pub Compiles : Contents → Disk → (from to : ℕ) → Result Contents LoadFault → Type 0
Compiles image d from to result =
    (ws : Words) (a : ℕ) (es : List ColonDefinition) →
    CanCompile image d from to ws a es → let m = memory_of image d in
    IsCompiledAs image (laid_all m es) (context_behind m es) result
