-- A file of blocks with more blocks, and what was read for it.
use Rattle.std.proofs.Common.{◌≡◌, ◌<◌, ◌%◌, ◌∙◌, ℕ, List, [], ◌∷◌, ◌++◌, length, Bool, true, false, Option, ap, refl}
use Rattle.named_files.specs.Done.{SystemLog, done}
use Rattle.named_files.specs.FileBytes.{FileLogs}
use Rattle.old_disk_subcommands.specs.Unpacked.{IsGrown, ReadsDisk, grown, read_before}

pub grows : (before file blocks : List ℕ) (first : ℕ) → length blocks % 1024 ≡ 0 → 0 < length blocks → file ≡ grown before first blocks → IsGrown before file
grows before file blocks first whole some is = record { first = first; blocks = blocks; whole = whole; some = some; is = is }

-- the old blocks, if they are to stay, and then the container
pub reads_disk : (container bytes blocks before : List ℕ) (appends : Bool) (old new : SystemLog) (middle after : FileLogs)
    (printed printed' : Option (List ℕ)) → middle ≡ read_before blocks appends before old.files → (appends ≡ false → before ≡ [])
    → after ≡ record middle { read = middle.read ++ (container, bytes) ∷ [] } → new.files.read ≡ after.read
    → ReadsDisk container bytes blocks before appends (done old printed) (done new printed')
reads_disk container bytes blocks before true old new middle after printed printed' first none next same =
    same ∙ ap (λ f. f.read) next ∙ ap (λ f. f.read ++ (container, bytes) ∷ []) first
reads_disk container bytes blocks before false old new middle after printed printed' first none next same =
    (none refl, same ∙ ap (λ f. f.read) next ∙ ap (λ f. f.read ++ (container, bytes) ∷ []) first)
