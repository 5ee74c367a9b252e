-- What `advise` did with the file that it was given by name.
use Rattle.std.specs.Prelude.{◌≡◌, ◌⊎◌, ℕ, List, [], ◌∷◌, Bool, false, Option, codes}
use Rattle.advice.specs.declared.case.AdviceRefused.{AdviceRefused}
use Rattle.advice.specs.declared.case.AdviceRefused.TheVariants as refused
use Rattle.named_files.specs.Asking.{Asks, Step, step}
use Rattle.named_files.specs.Done.{Done, Reads}
use Rattle.named_files.specs.declared.step_log.Deed.TheVariants as deed
use Rattle.subcommands.specs.Lines.{Prints, PrintsOutOfMemory, PrintsRefusal, as_line}

-- what `advise CASE` asks of the system: the case
abbrev pub advise_steps : (case : List ℕ) → List Step
advise_steps case = step deed.Read (case ∷ []) ∷ []

-- how it is spelled why a text is no case
abbrev pub cause : AdviceRefused → List ℕ
cause refused.OutOfMemory = codes "OutOfMemory"
cause refused.UnknownLine = codes "UnknownLine"
cause refused.BadNumber = codes "BadNumber"
cause refused.NoRequest = codes "NoRequest"

-- a line was printed with status 0, or why there is none
abbrev pub EndsAdvised : (status : ℕ) → (old new : Option (List ℕ)) → Type 0
EndsAdvised status old new =
    ((answer : List ℕ) × Prints (as_line answer) 0 status old new)
    ⊎ ((why : AdviceRefused) × PrintsRefusal (codes "case") (cause why) status old new)
    ⊎ PrintsOutOfMemory status old new

-- `advise CASE`, once the step was taken: just that file was read, and nothing was written
pub record Advises (case : List ℕ) (status : ℕ) (failed : Bool) (old new : Done) : Type 0 where
  pub asks : Asks (advise_steps case) 0 old.asked new.asked
  pub bytes : List ℕ
  pub reads : Reads case bytes old new
  pub unwritten : new.written ≡ old.written
  pub used : new.used ≡ old.used
  pub printed : failed ≡ false → EndsAdvised status old.sent new.sent
