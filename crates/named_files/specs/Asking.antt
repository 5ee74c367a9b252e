-- What the system was asked to do with the files that the command line names, one step after another.
use Rattle.std.specs.Prelude.{◌≡◌, ◌⊎◌, ◌<◌, ℕ, List, [], ◌∷◌, ◌++◌, map, Bool, true, false, Option, Some, None, Result, Ok, Err, refl}
use Rattle.std.specs.Borrow.{Bor}
use Rattle.std.specs.Coded.{Coded, code_by, coded×, coded_ℕ, coded_list}
use Rattle.named_files.specs.contracts.step_log.Deed as deed
use Rattle.named_files.specs.declared.step_log.Asked as asked
use Rattle.named_files.specs.declared.step_log.Deed.{Deed}
use Rattle.named_files.specs.declared.step_log.Deed.TheVariants.{Discard}

-- what was to be done, and the names of the files or options that it was about
pub record Step : Type 0 where
  pub deed : Deed
  pub names : List (List ℕ)

abbrev pub step : Deed → List (List ℕ) → Step
step deed names = record { deed = deed; names = names }

-- the name that is given, if one is
abbrev pub given : Option (Bor (List ℕ)) → List (List ℕ)
given None = []
given (Some name) = name.now ∷ []

-- a step, and the answer: 0 if it was taken, and else the status with which it was refused
pub record Answered : Type 0 where
  pub step : Step
  pub status : ℕ

abbrev pub answered : Step → ℕ → Answered
answered s status = record { step = s; status = status }

-- these steps were asked for: each was taken, and the status is 0; or one was refused, with a status above 0, and none came after it
unfoldable pub Asks : List Step → (status : ℕ) → (old new : List Answered) → Type 0
Asks [] status old new = (status ≡ 0) × (new ≡ old)
Asks (s ∷ more) status old new =
    ((0 < status) × (new ≡ old ++ answered s status ∷ [])) ⊎ Asks more status (old ++ answered s 0 ∷ []) new

-- a step was refused
abbrev pub Refused : Step → (status : ℕ) → (old new : List Answered) → Type 0
Refused s status old new = (0 < status) × (new ≡ old ++ answered s status ∷ [])

-- a step was taken or refused, by the result
abbrev pub Answers : {T : Type 0} → Step → Result T ℕ → (old new : List Answered) → Type 0
Answers s (Ok value) old new = new ≡ old ++ answered s 0 ∷ []
Answers s (Err status) old new = Refused s status old new

-- the same of some steps
abbrev pub AnswersAll : {T : Type 0} → List Step → Result T ℕ → (old new : List Answered) → Type 0
AnswersAll steps (Ok value) old new = Asks steps 0 old new
AnswersAll steps (Err status) old new = (0 < status) × Asks steps status old new

-- the file of a trace is removed, if it was made for a run of which nothing came
abbrev pub discards : (trace : List ℕ) → (unused : Bool) → List Step
discards trace true = step Discard (trace ∷ []) ∷ []
discards trace false = []

abbrev pub answer : {T : Type 0} → Result T ℕ → ℕ
answer (Ok value) = 0
answer (Err status) = status

abbrev pub answered_of : asked.Asked → Answered
answered_of a = answered (step a.deed (map (λ name. name.now) a.names.now)) a.status

-- how the logic stores an answer
abbrev pub Parts : Type 0
Parts = Deed × (List (List ℕ) × ℕ)

abbrev pub to_parts : Answered → Parts
to_parts a = (a.step.deed, (a.step.names, a.status))

abbrev pub of_parts : Parts → Answered
of_parts p = answered (step p.0 p.1.0) p.1.1

pub of_parts-to_parts : (a : Answered) → of_parts (to_parts a) ≡ a
of_parts-to_parts a = refl

abbrev pub answered_coded : Coded Answered
answered_coded = code_by Parts (coded× deed.the_row.coded (coded× (coded_list (coded_list coded_ℕ)) coded_ℕ)) to_parts of_parts of_parts-to_parts
