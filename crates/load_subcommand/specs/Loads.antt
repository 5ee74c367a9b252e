-- What `load` prints, and the file that it makes.
use Rattle.std.specs.Prelude.{◌≡◌, ℕ, Bool, false, List, ◌++◌, Option, Some, Result, Ok, Err, IfErr, IfOk, IsNone, MatchOption, codes, decimal}
use Rattle.block_buffers.specs.DeviceCalls.{DeviceCall}
use Rattle.block_buffers.specs.Disks.{Disk}
use Rattle.image_loader.specs.Files.{Contents, IsFile}
use Rattle.metacompiler.specs.Loaded.{Loaded, IsLoaded, IsSaved, loaded_by_machine}
use Rattle.metacompiler.specs.Moved.{HasLoaded, word_of}
use Rattle.metacompiler.specs.declared.load.LoadFault.{LoadFault}
use Rattle.metacompiler.specs.declared.load.LoadFault.TheVariants as load
use Rattle.subcommands.specs.Lines.{IsFileOf, PrintsOutOfMemory, PrintsRefusal, image_line}
use Rattle.subcommands.specs.declared.commands.Ended.{Ended}

abbrev pub load_cause : LoadFault → List ℕ
load_cause load.NotFound = codes "NotFound"
load_cause load.ChainTooLong = codes "ChainTooLong"
load_cause (load.Fault number) = codes "Fault " ++ decimal number
load_cause load.Halted = codes "Halted"
load_cause load.Asked = codes "Asked"
load_cause load.Limit = codes "Limit"
load_cause load.Unfinished = codes "Unfinished"
load_cause load.BadSize = codes "BadSize"
load_cause load.OutOfMemory = codes "out of memory"

-- why screens aren't loaded was printed
abbrev pub PrintsUnloaded : LoadFault → (status : ℕ) → (old new : Option (List ℕ)) → Type 0
PrintsUnloaded load.OutOfMemory status old new = PrintsOutOfMemory status old new
PrintsUnloaded why status old new = PrintsRefusal (codes "load") (load_cause why) status old new

-- so `load` ends where this is answered: with the file of the image and its line, or with why there is none; memory may
-- run out after it
abbrev pub EndsAnswered : Result Contents LoadFault → Ended → (old new : Option (List ℕ)) → Type 0
EndsAnswered (Ok image) ended old new =
    MatchOption ended.file (PrintsOutOfMemory ended.status old new)
    (λ file. IsFileOf image (image_line image) file.items old new)
EndsAnswered (Err why) ended old new = IsNone ended.file × PrintsUnloaded why ended.status old new

-- what loading comes to over this device is answered, or that memory ran out; if the writer doesn't fail, it is printed
pub record EndsLoaded (d : Disk) (o : Loaded) (disk : Option Disk) (ended : Ended) (failed : Bool) (old new : Option (List ℕ)) : Type 0 where
  pub answer : Result Contents LoadFault
  pub is_loaded : IsLoaded d o answer disk
  pub ends : failed ≡ false → EndsAnswered answer ended old new

-- what follows from the moves that the machine made is answered, whatever the device is
pub record EndsMoved (image : Contents) (count from to limit : ℕ) (calls calls' : List DeviceCall) (ended : Ended) (failed : Bool)
    (old new : Option (List ℕ)) : Type 0 where
  pub answer : Result Contents LoadFault
  pub unread : IfErr (word_of image from to) (λ why. IsSaved (Err why) answer × (calls' ≡ calls))
  pub read : IfOk (word_of image from to) (λ word. HasLoaded word image count from to limit calls calls' answer)
  pub ends : failed ≡ false → EndsAnswered answer ended old new

-- if the bytes are an image's file and the device reports its blocks: of what loading the screens comes to
abbrev pub OfLoad : List ℕ → Option Disk → (from to limit : ℕ) → (Disk → Loaded → Type 0) → Type 0
OfLoad bytes disk from to limit Of =
    (old : Contents) → IsFile bytes old → (d : Disk) → disk ≡ Some d → Of d (loaded_by_machine old d from to limit)
