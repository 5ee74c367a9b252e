-- What `judge` did with the files that it was given by name.
use Rattle.std.specs.Prelude.{◌≡◌, ◌⊎◌, ℕ, List, [], ◌∷◌, ◌++◌, Bool, false, Option}
use Rattle.named_files.specs.Asking.{Asks, Step, step}
use Rattle.named_files.specs.Done.{Done}
use Rattle.named_files.specs.declared.step_log.Deed.TheVariants as deed
use Rattle.subcommands.specs.Lines.{OfImageFile, Prints, PrintsNoImage}

-- what `judge IMAGE TEXTS COURSE PUPIL` asks of the system: the image, what is said of faults, the course, and the pupil's file
abbrev pub judge_steps : (image texts course pupil : List ℕ) → List Step
judge_steps image texts course pupil =
    step deed.Read (image ∷ []) ∷ step deed.Read (texts ∷ []) ∷ step deed.Read (course ∷ []) ∷ step deed.Read (pupil ∷ []) ∷ []

-- results were printed, or with status 1 why there are none
abbrev pub EndsJudged : (status : ℕ) → (old new : Option (List ℕ)) → Type 0
EndsJudged status old new = ((results : List ℕ) × Prints results 0 status old new) ⊎ ((why : List ℕ) × Prints why 1 status old new)

-- just these four files were read, one after the other
abbrev pub ReadsFour : (image image' texts texts' course course' pupil pupil' : List ℕ) → (old new : Done) → Type 0
ReadsFour image image' texts texts' course course' pupil pupil' old new =
    new.read ≡ (((old.read ++ (image, image') ∷ []) ++ (texts, texts') ∷ []) ++ (course, course') ∷ []) ++ (pupil, pupil') ∷ []

-- `judge IMAGE TEXTS COURSE PUPIL`, once these steps were taken: the files were read, and nothing was written
pub record Judges (image texts course pupil : List ℕ) (status : ℕ) (failed : Bool) (old new : Done) : Type 0 where
  pub asks : Asks (judge_steps image texts course pupil) 0 old.asked new.asked
  pub bytes : List ℕ
  pub said : List ℕ
  pub lessons : List ℕ
  pub answers : List ℕ
  pub reads : ReadsFour image bytes texts said course lessons pupil answers old new
  pub unwritten : new.written ≡ old.written
  pub used : new.used ≡ old.used
  pub printed : failed ≡ false → OfImageFile bytes (λ _. EndsJudged status old.sent new.sent)
  pub refused : failed ≡ false → PrintsNoImage bytes status old.sent new.sent
