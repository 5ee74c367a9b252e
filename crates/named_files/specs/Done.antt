-- What a subcommand did with the files that it was given by name, and what it sent.
use Rattle.std.specs.Prelude.{◌≡◌, ◌≢◌, ◌⊎◌, ◌<◌, ℕ, List, [], ◌∷◌, ◌++◌, Bool, true, false, Option, Result, Ok, Err, Vec}
use Rattle.std.specs.declared.alloc.Global.{Global}
use Rattle.named_files.specs.Asking.{Answered, Asks, Step, answered, step}
use Rattle.named_files.specs.FileBytes.{FileBytes, FileLogs}
use Rattle.named_files.specs.Uses.{Uses}
use Rattle.named_files.specs.declared.step_log.Deed.TheVariants.{Write}

-- what the system was asked, and the files that it read and wrote whole for that
pub record SystemLog : Type 0 where
  pub asked : List Answered
  pub files : FileLogs

abbrev pub system_log : List Answered → FileLogs → SystemLog
system_log asked files = record { asked = asked; files = files }

-- what was done so far: what the system was asked and answered, the files that were read whole, those that were written whole, what was
-- handed back of that which was opened, and the bytes that were sent to standard output
pub record Done : Type 0 where
  pub asked : List Answered
  pub read : List FileBytes
  pub written : List FileBytes
  pub used : Uses
  pub sent : Option (List ℕ)

abbrev pub done : SystemLog → (sent : Option (List ℕ)) → Done
done log sent = record { asked = log.asked; read = log.files.read; written = log.files.written; used = log.files.used; sent = sent }

-- the status, whether the subcommand could begin or not
abbrev pub status_of : Result ℕ ℕ → ℕ
status_of (Ok status) = status
status_of (Err status) = status

-- a subcommand that takes these steps could not begin: the system refused one of them, with this status, and printed why. The subcommand
-- sent nothing, and wrote no file.
pub record Refuses (steps : List Step) (status : ℕ) (old new : Done) : Type 0 where
  pub above_0 : 0 < status
  pub asks : Asks steps status old.asked new.asked
  pub silent : new.sent ≡ old.sent
  pub unwritten : new.written ≡ old.written

-- with every status but that of an end that failed, all that was sent was passed on, if the output did not fail
abbrev pub IsPassedOn : (status : ℕ) → (failed passed : Bool) → (old new : Option (List ℕ)) → Type 0
IsPassedOn status failed passed old new = status ≢ 5 → failed ≡ false → (passed ≡ true) ⊎ (new ≡ old)

-- just this file was read
abbrev pub Reads : (name bytes : List ℕ) → (old new : Done) → Type 0
Reads name bytes old new = new.read ≡ old.read ++ (name, bytes) ∷ []

-- just these two files were read, one after the other
abbrev pub ReadsBoth : (name bytes name' bytes' : List ℕ) → (old new : Done) → Type 0
ReadsBoth name bytes name' bytes' old new = new.read ≡ (old.read ++ (name, bytes) ∷ []) ++ (name', bytes') ∷ []

-- a subcommand that takes these steps ended with a status. After 0 it asked for one thing more: that its file is written, such as it
-- must be; if that was refused, the program ends with the status of that, and nothing was written. After another status it asked for
-- nothing more.
pub record Makes (steps : List Step) (name : List ℕ) (ended status : ℕ) (old new : Done) (Of : Vec ℕ Global → Type 0) : Type 0 where
  pub unmade : 0 < ended → (status ≡ ended) × Asks steps 0 old.asked new.asked
  pub made : ended ≡ 0 → Asks (steps ++ step Write (name ∷ []) ∷ []) status old.asked new.asked
  pub file : status ≡ 0 → (file : Vec ℕ Global) × (new.written ≡ old.written ++ (name, file.items) ∷ []) × Of file
  pub none : 0 < status → new.written ≡ old.written

-- the file of this name was written, and the status is the wanted one; or that was refused
abbrev pub IsWrittenOr : (name bytes : List ℕ) → (wanted status : ℕ) → (old new : SystemLog) → Type 0
IsWrittenOr name bytes wanted status old new =
    ((status ≡ wanted) × (new.asked ≡ old.asked ++ answered (step Write (name ∷ [])) 0 ∷ [])
    × (new.files ≡ record (old.files) { written = old.files.written ++ (name, bytes) ∷ [] }))
    ⊎ ((0 < status) × (new.asked ≡ old.asked ++ answered (step Write (name ∷ [])) status ∷ []) × (new.files ≡ old.files))
