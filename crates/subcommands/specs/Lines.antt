-- Lines that the program prints, and its status.
use Rattle.std.specs.Prelude.{◌≡◌, ◌⊎◌, ◌<◌, ◌≤◌, ℕ, List, [], ◌∷◌, ◌++◌, length, Option, Result, Ok, Err, Vec, codes, decimal, unwrap_or}
use Rattle.std.specs.declared.alloc.Global.{Global}
use Rattle.std.specs.Io.KnownBytes.{Appends}
use Rattle.block_buffers.specs.Disks.{Disk}
use Rattle.dictionary.specs.Search.{sought}
use Rattle.subcommands.specs.Causes.{IsNoFile, build_cause, image_cause, view_cause, see_cause, upgrade_cause}
use Rattle.image_loader.specs.declared.upgrading.UpgradeFault.TheVariants as upgrade
use Rattle.image_loader.specs.Files.{Contents, IsFile, IsWritten}
use Rattle.image_loader.specs.declared.fault.ImageFault.{ImageFault}
use Rattle.image_builder.specs.Sources.{Done, IsRefused}
use Rattle.image_builder.specs.declared.cause.BuildFault.{BuildFault}
use Rattle.image_builder.specs.declared.cause.Cause.{Cause}
use Rattle.image_builder.specs.declared.cause.Cause.TheVariants as build
use Rattle.memory.specs.Bytes.{front_put, zeros, limit_of}
use Rattle.see.specs.Seeing.{IsSeen}
use Rattle.see.specs.View.{viewed}
use Rattle.see.specs.declared.refusal.SeeRefused.{SeeRefused}
use Rattle.see.specs.declared.refusal.SeeRefused.TheVariants as see
use Rattle.see.specs.declared.refusal.ViewRefused.{ViewRefused}

-- a text and a line feed
abbrev pub as_line : List ℕ → List ℕ
as_line text = text ++ 10 ∷ []

-- just this line was printed, and the program's status is the wanted one
abbrev pub Prints : List ℕ → (wanted status : ℕ) → (old new : Option (List ℕ)) → Type 0
Prints bytes wanted status old new = (status ≡ wanted) × Appends old new bytes

abbrev pub PrintsOutOfMemory : (status : ℕ) → (old new : Option (List ℕ)) → Type 0
PrintsOutOfMemory status old new = Prints (as_line (codes "out of memory")) 1 status old new

-- `WHAT: CAUSE`
abbrev pub refusal : (what cause : List ℕ) → List ℕ
refusal what cause = what ++ (codes ": " ++ as_line cause)

-- status 1, and `WHAT: CAUSE` was printed
abbrev pub PrintsRefusal : (what cause : List ℕ) → (status : ℕ) → (old new : Option (List ℕ)) → Type 0
PrintsRefusal what cause status old new = Prints (refusal what cause) 1 status old new

-- if the bytes are no image's file, it was printed why
abbrev pub PrintsNoImage : List ℕ → (status : ℕ) → (old new : Option (List ℕ)) → Type 0
PrintsNoImage bytes status old new =
    (fault : ImageFault) → IsNoFile bytes fault → PrintsRefusal (codes "image") (image_cause fault) status old new

-- the bytes are an image's file
abbrev pub IsOfImage : List ℕ → Type 0
IsOfImage bytes = (image : Contents) × IsFile bytes image

-- if the bytes are an image's file: of the image
abbrev pub OfImageFile : List ℕ → (Contents → Type 0) → Type 0
OfImageFile bytes Of = (image : Contents) → IsFile bytes image → Of image

-- the memory that an image is loaded to
abbrev pub memory_of : Contents → List ℕ
memory_of image = front_put image.bytes zeros

-- `screen S offset O: CAUSE`, with some spelling of the cause
abbrev pub fault_line : (screen offset : ℕ) → List ℕ → List ℕ
fault_line screen offset cause = codes "screen " ++ (decimal screen ++ (codes " offset " ++ (decimal offset ++ (codes ": " ++ as_line cause))))

-- status 1, and where and why a source is refused was printed
abbrev pub PrintsFault : (screen offset : ℕ) → Cause → (status : ℕ) → (old new : Option (List ℕ)) → Type 0
PrintsFault screen offset build.OutOfMemory status old new = PrintsOutOfMemory status old new
PrintsFault screen offset cause status old new = Prints (fault_line screen offset (build_cause cause)) 1 status old new

-- the screens from..to are refused for a fault, as an image for so many buffers, and that was printed
pub record EndsRefused (count : ℕ) (d : Disk) (from to : ℕ) (done : Done) (status : ℕ) (old new : Option (List ℕ)) : Type 0 where
  pub fault : BuildFault
  pub is_refused : IsRefused (limit_of count) d from to fault done
  pub printed : PrintsFault fault.screen fault.offset fault.cause status old new

-- the same, or memory ran out after it
abbrev pub EndsUnbuilt : (count : ℕ) → Disk → (from to : ℕ) → Done → (status : ℕ) → (old new : Option (List ℕ)) → Type 0
EndsUnbuilt count d from to done status old new =
    EndsRefused count d from to done status old new ⊎ PrintsOutOfMemory status old new

-- `size S entry E`
abbrev pub image_line : Contents → List ℕ
image_line image = codes "size " ++ (decimal (length image.bytes) ++ (codes " entry " ++ as_line (decimal image.entry)))

-- these bytes are the file that is written of this image, and this was printed
pub record IsFileOf (image : Contents) (said : List ℕ) (bytes : List ℕ) (old new : Option (List ℕ)) : Type 0 where
  pub is_file : IsWritten bytes image
  pub printed : Appends old new said

-- these bytes are the file that is written of an image, and its line was printed
pub record IsTold (bytes : List ℕ) (old new : Option (List ℕ)) : Type 0 where
  pub image : Contents
  pub told : IsFileOf image (image_line image) bytes old new

-- `size S buffers N`
abbrev pub upgrade_line : Contents → List ℕ
upgrade_line image = codes "size " ++ (decimal (length image.bytes) ++ (codes " buffers " ++ as_line (decimal image.buffers)))

-- how many buffers an image is upgraded for: as many as are given, or as many as it has
abbrev pub new_buffers : Contents → Option ℕ → ℕ
new_buffers image given = unwrap_or given image.buffers

-- its bytes reach beyond where so many buffers begin
abbrev pub IsTooLarge : Contents → Option ℕ → Type 0
IsTooLarge image given = limit_of (new_buffers image given) < length image.bytes

-- they don't
abbrev pub HasRoom : Contents → Option ℕ → Type 0
HasRoom image given = length image.bytes ≤ limit_of (new_buffers image given)

-- the image that an image is upgraded to: the same entry and bytes, for these buffers
abbrev pub upgraded : Contents → Option ℕ → Contents
upgraded image given = record image { buffers = new_buffers image given }

-- that an image is too large was printed
abbrev pub PrintsTooLarge : (status : ℕ) → (old new : Option (List ℕ)) → Type 0
PrintsTooLarge status old new = PrintsRefusal (codes "image") (upgrade_cause upgrade.TooLarge) status old new

-- these bytes are the file that is written of this image, and its line was printed
abbrev pub IsUpgraded : List ℕ → Contents → (old new : Option (List ℕ)) → Type 0
IsUpgraded bytes image old new = IsFileOf image (upgrade_line image) bytes old new

-- the number of a screen was printed, or why there is none
abbrev pub PrintsViewed : (name : List ℕ) → Result ℕ ViewRefused → (status : ℕ) → (old new : Option (List ℕ)) → Type 0
PrintsViewed name (Ok screen) status old new = Prints (as_line (decimal screen)) 0 status old new
PrintsViewed name (Err why) status old new = PrintsRefusal name (view_cause why) status old new

-- the text of a word was printed, or why there is none
abbrev pub PrintsSeen : (name : List ℕ) → Result (Vec ℕ Global) SeeRefused → (status : ℕ) → (old new : Option (List ℕ)) → Type 0
PrintsSeen name (Ok text) status old new = Prints (as_line text.items) 0 status old new
PrintsSeen name (Err see.OutOfMemory) status old new = PrintsOutOfMemory status old new
PrintsSeen name (Err why) status old new = PrintsRefusal name (see_cause why) status old new

-- what VIEW says of a name in an image was printed, or that memory ran out
abbrev pub EndsViewed : Contents → (name : List ℕ) → (status : ℕ) → (old new : Option (List ℕ)) → Type 0
EndsViewed image name status old new =
    PrintsViewed name (viewed (memory_of image) (sought (memory_of image) name)) status old new ⊎ PrintsOutOfMemory status old new

-- what SEE answers of a name in an image was printed; it may answer that memory ran out
pub record EndsSeen (image : Contents) (name : List ℕ) (status : ℕ) (old new : Option (List ℕ)) : Type 0 where
  pub answer : Result (Vec ℕ Global) SeeRefused
  pub is_seen : IsSeen (memory_of image) name answer
  pub printed : PrintsSeen name answer status old new
