-- Screens read of containers, and written into them.
use Rattle.std.specs.Prelude.{◌≡◌, ℕ, List, ◌++◌, Bool, Option, codes, decimal, if◌then◌else◌, unwrap_or}
use Rattle.containers.specs.Cleaning.{cleaned}
use Rattle.containers.specs.Containers.{IsRead}
use Rattle.containers.specs.Layouts.{Layout}
use Rattle.containers.specs.declared.cause.Cause.{Cause}
use Rattle.containers.specs.declared.cause.Cause.TheVariants as container
use Rattle.subcommands.specs.Lines.{PrintsOutOfMemory, PrintsRefusal}

abbrev pub container_cause : Cause → List ℕ
container_cause container.BadSector = codes "BadSector"
container_cause container.BadSkew = codes "BadSkew"
container_cause container.CutShort = codes "CutShort"
container_cause container.TooLarge = codes "TooLarge"
container_cause (container.NoEnding at) = codes "NoEnding " ++ decimal at
container_cause container.CutBlock = codes "CutBlock"
container_cause container.NoRoom = codes "NoRoom"
container_cause container.OutOfMemory = codes "out of memory"

-- this cause was printed, as `container: CAUSE`, or that memory ran out
abbrev pub PrintsCause : Cause → (status : ℕ) → (old new : Option (List ℕ)) → Type 0
PrintsCause container.OutOfMemory status old new = PrintsOutOfMemory status old new
PrintsCause cause status old new = PrintsRefusal (codes "container") (container_cause cause) status old new

-- why it isn't done was printed; if nothing is wrong, that memory ran out
abbrev pub PrintsUnread : Option Cause → (status : ℕ) → (old new : Option (List ℕ)) → Type 0
PrintsUnread why status old new = PrintsCause (unwrap_or why container.OutOfMemory) status old new

-- these bytes are the screens that lie in the container, made text if that is wanted
pub record IsImported (l : Layout) (container : List ℕ) (cleans : Bool) (bytes : List ℕ) : Type 0 where
  pub screens : List ℕ
  pub read : IsRead l container screens
  pub made : bytes ≡ (if cleans then cleaned screens else screens)
