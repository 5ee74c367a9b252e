-- What `load` ends with, by what loading answers.
use Rattle.std.proofs.Common.{◌≡◌, ℕ, Bool, false, List, Option, Some, None, Result, Ok, Err, inr, refl, subst}
use Rattle.std.specs.Prelude.{IfErr, IfOk, IfSome, IsNone, MatchOption}
use Rattle.block_buffers.specs.DeviceCalls.{DeviceCall}
use Rattle.block_buffers.specs.Disks.{Disk}
use Rattle.image_loader.specs.Files.{Contents}
use Rattle.metacompiler.specs.Loaded.{IsLoaded, IsSaved, loaded_by_machine}
use Rattle.metacompiler.specs.Moved.{HasLoaded}
use Rattle.metacompiler.specs.declared.load.LoadFault.{LoadFault}
use Rattle.metacompiler.specs.declared.load.LoadFault.TheVariants.{OutOfMemory}
use Rattle.load_subcommand.specs.Loads.{EndsAnswered, EndsLoaded}
use Rattle.subcommands.specs.declared.commands.Ended.{Ended}

-- if there is a value this holds of it, and else that
pub by_value : {T Q : Type 0} (P : T → Type 0) (o : Option T) → IfSome o P → (IsNone o → Q) → MatchOption o Q P
by_value P None is none = none refl
by_value P (Some x) is none = is

pub loaded_so : (read old : Contents) (d : Disk) (from to limit : ℕ) (answer : Result Contents LoadFault) (disk : Option Disk)
    (ended : Ended) (failed : Bool) (sent sent' : Option (List ℕ)) → read ≡ old → IsLoaded d (loaded_by_machine read d from to limit) answer disk
    → (failed ≡ false → EndsAnswered answer ended sent sent') → EndsLoaded d (loaded_by_machine old d from to limit) disk ended failed sent sent'
loaded_so read old d from to limit answer disk ended failed sent sent' same is ends =
    record { answer = answer; is_loaded = subst (λ i. IsLoaded d (loaded_by_machine i d from to limit) answer disk) same is; ends = ends }

-- for lack of memory nothing was read, and no call made
pub none_unread : (word : Result ℕ LoadFault) (calls : List DeviceCall) → IfErr word (λ why. IsSaved (Err why) (Err OutOfMemory) × (calls ≡ calls))
none_unread (Ok word) calls = tt
none_unread (Err why) calls = (tt, refl)

pub none_read : (word : Result ℕ LoadFault) (image : Contents) (count from to limit : ℕ) (calls : List DeviceCall)
    → IfOk word (λ w. HasLoaded w image count from to limit calls calls (Err OutOfMemory))
none_read (Ok word) image count from to limit calls = inr (refl, refl)
none_read (Err why) image count from to limit calls = tt
