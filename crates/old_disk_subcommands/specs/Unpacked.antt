-- What `unpack` and `pack` did with the files that they were given by name.
use Rattle.std.specs.Prelude.{◌≡◌, ◌⊎◌, ◌<◌, ◌*◌, ◌-◌, ◌%◌, ℕ, List, [], ◌∷◌, ◌++◌, length, replicate, Bool, true, false, Option, codes}
use Rattle.std.specs.Io.KnownBytes.{Appends}
use Rattle.named_files.specs.Asking.{Answered, Asks, Refused, Step, step}
use Rattle.named_files.specs.Done.{Done, Makes, Reads, ReadsBoth, Refuses}
use Rattle.named_files.specs.FileBytes.{FileLogs}
use Rattle.named_files.specs.declared.step_log.Deed.TheVariants as deed
use Rattle.subcommands.specs.Lines.{PrintsOutOfMemory, PrintsRefusal}

-- a skew can't be used, or memory ran out
abbrev pub RefusesSkew : (status : ℕ) → (old new : List Answered) → Type 0
RefusesSkew status old new =
    Refused (step deed.Take (codes "--skew" ∷ [])) status old new ⊎ Refused (step deed.Allocate []) status old new

-- the name of the format or the skew can't be used, or memory ran out
abbrev pub RefusesValues : (format : List ℕ) → (status : ℕ) → (old new : List Answered) → Type 0
RefusesValues format status old new = Refused (step deed.Take (format ∷ [])) status old new ⊎ RefusesSkew status old new

-- the same of a subcommand that asked for nothing before
abbrev pub RefusesOptions : (format : List ℕ) → (status : ℕ) → (old new : Done) → Type 0
RefusesOptions format status old new =
    Refuses (step deed.Take (format ∷ []) ∷ []) status old new
    ⊎ Refuses (step deed.Take (codes "--skew" ∷ []) ∷ []) status old new
    ⊎ Refuses (step deed.Allocate [] ∷ []) status old new

-- a sentence was printed, with status 1: why a container is not read or written, or that memory ran out
abbrev pub PrintsWhy : (status : ℕ) → (old new : Option (List ℕ)) → Type 0
PrintsWhy status old new = ((why : List ℕ) × PrintsRefusal (codes "container") why status old new) ⊎ PrintsOutOfMemory status old new

-- remarks were printed, or nothing
abbrev pub PrintsSome : (old new : Option (List ℕ)) → Type 0
PrintsSome old new = (remarks : List ℕ) × Appends old new remarks

-- blocks, with others after them, of which the first has at least this number; blank ones are between them
abbrev pub grown : (before : List ℕ) → (first : ℕ) → (blocks : List ℕ) → List ℕ
grown before first blocks = (before ++ replicate (first * 1024 - length before) 32) ++ blocks

-- these bytes are those of a file of blocks with one block or more after those that it had
pub record IsGrown (before file : List ℕ) : Type 0 where
  pub first : ℕ
  pub blocks : List ℕ
  pub whole : length blocks % 1024 ≡ 0
  pub some : 0 < length blocks
  pub is : file ≡ grown before first blocks

-- what is asked about the file of blocks: that it does not exist, or else for its blocks, if others are to come after them
abbrev pub before_steps : (blocks : List ℕ) → (appends : Bool) → List Step
before_steps blocks true = step deed.KeepBlocks (blocks ∷ []) ∷ step deed.Hold (blocks ∷ []) ∷ step deed.Read (blocks ∷ []) ∷ []
before_steps blocks false = step deed.KeepAbsent (blocks ∷ []) ∷ []

abbrev pub unpack_steps : (container blocks : List ℕ) → (appends : Bool) → List Step
unpack_steps container blocks appends = before_steps blocks appends ++ step deed.Read (container ∷ []) ∷ []

-- after the blocks of a file were read, if it was
abbrev pub read_before : (blocks : List ℕ) → (appends : Bool) → (before : List ℕ) → FileLogs → FileLogs
read_before blocks true before files = record files { read = files.read ++ (blocks, before) ∷ [] }
read_before blocks false before files = files

-- the container was read, and before it the file of blocks, if others are to come after its own; a new one has none
abbrev pub ReadsDisk : (container bytes blocks before : List ℕ) → (appends : Bool) → (old new : Done) → Type 0
ReadsDisk container bytes blocks before true old new = ReadsBoth blocks before container bytes old new
ReadsDisk container bytes blocks before false old new = (before ≡ []) × Reads container bytes old new

abbrev pub RefusesUnpack : (container blocks format : List ℕ) → (appends : Bool) → (status : ℕ) → (old new : Done) → Type 0
RefusesUnpack container blocks format appends status old new = RefusesOptions format status old new ⊎ Refuses (unpack_steps container blocks appends) status old new

-- `unpack CONTAINER BLOCKS`, once these steps were taken
pub record Unpacks (container blocks : List ℕ) (appends : Bool) (status : ℕ) (failed : Bool) (old new : Done) : Type 0 where
  pub bytes : List ℕ
  pub before : List ℕ
  pub reads : ReadsDisk container bytes blocks before appends old new
  pub ended : ℕ
  pub makes : Makes (unpack_steps container blocks appends) blocks ended status old new (λ file. IsGrown before file.items)
  pub printed : failed ≡ false → ended ≡ 0 → PrintsSome old.sent new.sent
  pub refused : failed ≡ false → 0 < ended → PrintsWhy ended old.sent new.sent

abbrev pub pack_steps : (blocks container : List ℕ) → List Step
pack_steps blocks container =
    step deed.KeepApart (blocks ∷ container ∷ []) ∷ step deed.KeepBlocks (blocks ∷ []) ∷ step deed.KeepBlocks (container ∷ [])
    ∷ step deed.Read (blocks ∷ []) ∷ step deed.Hold (container ∷ []) ∷ step deed.Read (container ∷ []) ∷ []

abbrev pub RefusesPack : (blocks container format : List ℕ) → (status : ℕ) → (old new : Done) → Type 0
RefusesPack blocks container format status old new = RefusesOptions format status old new ⊎ Refuses (pack_steps blocks container) status old new

-- `pack BLOCKS CONTAINER`, once these steps were taken: the container has as many bytes as before
pub record Packs (blocks container : List ℕ) (status : ℕ) (failed : Bool) (old new : Done) : Type 0 where
  pub screens : List ℕ
  pub bytes : List ℕ
  pub reads : ReadsBoth blocks screens container bytes old new
  pub ended : ℕ
  pub makes : Makes (pack_steps blocks container) container ended status old new (λ file. length file.items ≡ length bytes)
  pub printed : failed ≡ false → ended ≡ 0 → PrintsSome old.sent new.sent
  pub refused : failed ≡ false → 0 < ended → PrintsWhy ended old.sent new.sent
