-- The image that `upgrade` makes, and what `export` reads.
use Rattle.std.proofs.Common.{◌≡◌, ◌∙◌, ◌∷◌, ◌++◌, [], ap, ℕ, List, Option, Some, None, Ok, Vec, IfSome, Bool, false}
use Rattle.std.specs.declared.alloc.Global.{Global}
use Rattle.file_subcommands.specs.Filed.{ReadsOld, Wanted, items_of}
use Rattle.named_files.specs.Done.{SystemLog, done}
use Rattle.named_files.specs.FileBytes.{FileLogs, reading_old}
use Rattle.subcommands.specs.Lines.{IsUpgraded, OfImageFile, upgraded}

pub upgraded_file : (bytes : List ℕ) (buffers : Option ℕ) (failed : Bool) (file : Option (Vec ℕ Global)) (sent sent' : Option (List ℕ))
    → (failed ≡ false → OfImageFile bytes (λ i. IfSome file (λ f. IsUpgraded f.items (upgraded i buffers) sent sent')))
    → IfSome file (λ f. failed ≡ false → OfImageFile bytes (λ i. IsUpgraded f.items (upgraded i buffers) sent sent'))
upgraded_file bytes buffers failed (Some file) sent sent' h = h
upgraded_file bytes buffers failed None sent sent' h = tt

pub read_old : (w : Wanted) (screens : List ℕ) (before : Option (Vec ℕ Global)) (old new : SystemLog) (middle after : FileLogs) (printed printed' : Option (List ℕ))
    → middle.read ≡ old.files.read ++ (w.blocks, screens) ∷ [] → after ≡ reading_old w.container (Ok before) middle → new.files.read ≡ after.read
    → ReadsOld w screens (items_of before) (done old printed) (done new printed')
read_old w screens (Some file) old new middle after printed printed' first next same =
    same ∙ ap (λ f. f.read) next ∙ ap (λ r. r ++ (w.container, file.items) ∷ []) first
read_old w screens None old new middle after printed printed' first next same = same ∙ ap (λ f. f.read) next ∙ first
