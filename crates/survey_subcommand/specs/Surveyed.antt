-- What `survey` did with the files that it was given by name.
use Rattle.std.specs.Prelude.{◌≡◌, ◌⊎◌, ℕ, List, [], ◌∷◌, Bool, false, Option}
use Rattle.named_files.specs.Asking.{Asks, Step, step}
use Rattle.named_files.specs.Done.{Done, ReadsBoth}
use Rattle.named_files.specs.declared.step_log.Deed.TheVariants as deed
use Rattle.subcommands.specs.Lines.{OfImageFile, Prints, PrintsNoImage, PrintsOutOfMemory}

-- what `survey IMAGE BLOCKS` asks of the system: the image, and then the blocks, which must be none
abbrev pub survey_steps : (image blocks : List ℕ) → List Step
survey_steps image blocks =
    step deed.Read (image ∷ []) ∷ step deed.KeepBlocks (blocks ∷ []) ∷ step deed.Read (blocks ∷ []) ∷ []

-- a report was printed, or that memory ran out
abbrev pub EndsSurveyed : (status : ℕ) → (old new : Option (List ℕ)) → Type 0
EndsSurveyed status old new = ((report : List ℕ) × Prints report 0 status old new) ⊎ PrintsOutOfMemory status old new

-- `survey IMAGE BLOCKS FROM TO`, once these steps were taken: both files were read, and nothing was written
pub record Surveys (image blocks : List ℕ) (status : ℕ) (failed : Bool) (old new : Done) : Type 0 where
  pub asks : Asks (survey_steps image blocks) 0 old.asked new.asked
  pub bytes : List ℕ
  pub screens : List ℕ
  pub reads : ReadsBoth image bytes blocks screens old new
  pub unwritten : new.written ≡ old.written
  pub used : new.used ≡ old.used
  pub printed : failed ≡ false → OfImageFile bytes (λ _. EndsSurveyed status old.sent new.sent)
  pub refused : failed ≡ false → PrintsNoImage bytes status old.sent new.sent
