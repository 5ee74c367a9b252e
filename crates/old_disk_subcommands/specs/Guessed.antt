-- What `guess` did with the file that it was given by name.
use Rattle.std.specs.Prelude.{◌≡◌, ◌⊎◌, ℕ, List, [], ◌∷◌, Bool, false, Option}
use Rattle.named_files.specs.Asking.{Asks, Step, step}
use Rattle.named_files.specs.Done.{Done, Reads}
use Rattle.named_files.specs.declared.step_log.Deed.TheVariants as deed
use Rattle.old_disk_subcommands.specs.Unpacked.{PrintsWhy}
use Rattle.subcommands.specs.Lines.{Prints}

-- what `guess DISK` asks of the system: the disk
abbrev pub guess_steps : (disk : List ℕ) → List Step
guess_steps disk = step deed.Read (disk ∷ []) ∷ []

-- a text was printed, or why the disk is not read
abbrev pub EndsGuessed : (status : ℕ) → (old new : Option (List ℕ)) → Type 0
EndsGuessed status old new = ((text : List ℕ) × Prints text 0 status old new) ⊎ PrintsWhy status old new

-- `guess DISK`, once the step was taken: just that file was read, and nothing was written
pub record Guesses (disk : List ℕ) (status : ℕ) (failed : Bool) (old new : Done) : Type 0 where
  pub asks : Asks (guess_steps disk) 0 old.asked new.asked
  pub bytes : List ℕ
  pub reads : Reads disk bytes old new
  pub unwritten : new.written ≡ old.written
  pub used : new.used ≡ old.used
  pub printed : failed ≡ false → EndsGuessed status old.sent new.sent
