-- What a subcommand asks for, and what it makes: that is written, and nothing else.
use Rattle.std.proofs.Common.{◌≡◌, ◌<◌, ℕ, List, ◌∷◌, ◌++◌, [], Option, Some, None, Vec, refl, sym, ap, subst, ◌∙◌, inl, inr, arith, MatchOption, IfSome, IsNone, IsSome, Bool, true, false, Result, Ok, Err, IfErr}
use Rattle.std.specs.Result.{IsErrAnd}
use Rattle.std.specs.declared.alloc.Global.{Global}
use Rattle.named_files.specs.Asking.{Answered, Asks, Refused, Step, answered, step}
use Rattle.named_files.specs.Done.{IsPassedOn, IsWrittenOr, Makes, Refuses, SystemLog, done}
use Rattle.named_files.specs.declared.step_log.Deed.TheVariants.{Write}

no_less : {B : Type 0} (n : ℕ) → n ≡ 0 → 0 < n → B
no_less n e lt = absurd (omega arith)

-- a step that was taken, and those after it
pub takes : (s : Step) (more : List Step) (status : ℕ) (old middle new : List Answered)
    → middle ≡ old ++ answered s 0 ∷ [] → Asks more status middle new → Asks (s ∷ more) status old new
unfolding Asks
takes s more status old middle new e h = inr (subst (λ m. Asks more status m new) e h)

-- the last of some steps was taken
pub taken : (s : Step) (old new : List Answered) → new ≡ old ++ answered s 0 ∷ [] → Asks (s ∷ []) 0 old new
unfolding Asks
taken s old new h = inr (refl, h)

-- a step that was refused, so that none came after it
pub refused : (s : Step) (more : List Step) (status : ℕ) (old new : List Answered) → Refused s status old new → Asks (s ∷ more) status old new
unfolding Asks
refused s more status old new h = inl h

-- steps after others that were all taken
pub then : (first next : List Step) (status : ℕ) (old middle new : List Answered) → Asks first 0 old middle → Asks next status middle new
    → Asks (first ++ next) status old new
unfolding Asks
then [] next status old middle new h k = subst (λ m. Asks next status m new) h.1 k
then (s ∷ first) next status old middle new (inl w) k = no_less 0 refl w.0
then (s ∷ first) next status old middle new (inr h) k = inr (then first next status (old ++ answered s 0 ∷ []) middle new h k)

-- steps of which one was refused, so that none came after it
pub stopped : (first next : List Step) (status : ℕ) (old new : List Answered) → 0 < status → Asks first status old new → Asks (first ++ next) status old new
unfolding Asks
stopped [] next status old new lt h = no_less status h.0 lt
stopped (s ∷ first) next status old new lt (inl w) = inl w
stopped (s ∷ first) next status old new lt (inr h) = inr (stopped first next status (old ++ answered s 0 ∷ []) new lt h)

-- the file that a subcommand ended with was written, or could not be
written_or : (Of : Vec ℕ Global → Type 0) (steps : List Step) (file : Vec ℕ Global) (ended status : ℕ) (name : List ℕ) (old middle new : SystemLog)
    (printed printed' : Option (List ℕ))
    → Asks steps 0 old.asked middle.asked → middle.files.written ≡ old.files.written → (ended ≡ 0) × Of file
    → IsWrittenOr name file.items ended status middle new
    → Makes steps name ended status (done old printed) (done new printed') Of
written_or Of steps file ended status name old middle new printed printed' asks same h (inl w) = record {
  unmade = λ lt. no_less ended h.0 lt;
  made = λ e. then steps (step Write (name ∷ []) ∷ []) status old.asked middle.asked new.asked asks
      (subst (λ n. Asks (step Write (name ∷ []) ∷ []) n middle.asked new.asked) (sym (w.0 ∙ h.0)) (taken (step Write (name ∷ [])) middle.asked new.asked w.1));
  file = λ e. (file, ap (λ f. f.written) w.2 ∙ ap (λ l. l ++ (name, file.items) ∷ []) same, h.1);
  none = λ lt. no_less status (w.0 ∙ h.0) lt;
}
written_or Of steps file ended status name old middle new printed printed' asks same h (inr w) = record {
  unmade = λ lt. no_less ended h.0 lt;
  made = λ e. then steps (step Write (name ∷ []) ∷ []) status old.asked middle.asked new.asked asks (refused (step Write (name ∷ [])) [] status middle.asked new.asked (w.0, w.1));
  file = λ e. no_less status e w.0;
  none = λ lt. ap (λ f. f.written) w.2 ∙ same;
}

pub made : (Of : Vec ℕ Global → Type 0) (steps : List Step) (file : Option (Vec ℕ Global)) (ended status : ℕ) (name : List ℕ) (old middle new : SystemLog)
    (printed printed' : Option (List ℕ))
    → Asks steps 0 old.asked middle.asked → middle.files.written ≡ old.files.written → MatchOption file (0 < ended) (λ f. (ended ≡ 0) × Of f)
    → (IsNone file → (status ≡ ended) × (new ≡ middle))
    → IfSome file (λ f. IsWrittenOr name f.items ended status middle new)
    → Makes steps name ended status (done old printed) (done new printed') Of
made Of steps (Some file) ended status name old middle new printed printed' asks same h none some =
    written_or Of steps file ended status name old middle new printed printed' asks same h some
made Of steps None ended status name old middle new printed printed' asks same h none some =
    let kept : (status ≡ ended) × (new ≡ middle) = none refl in
    record {
      unmade = λ lt. (kept.0, subst (λ n. Asks steps 0 old.asked n.asked) (sym kept.1) asks);
      made = λ e. no_less ended e h;
      file = λ e. no_less ended (sym kept.0 ∙ e) h;
      none = λ lt. ap (λ n. n.files.written) kept.1 ∙ same;
    }

-- what was read beside the file that was written
pub read_so : (file : Option (Vec ℕ Global)) (ended status : ℕ) (name : List ℕ) (middle new : SystemLog)
    → (IsNone file → (status ≡ ended) × (new ≡ middle))
    → IfSome file (λ f. IsWrittenOr name f.items ended status middle new)
    → new.files.read ≡ middle.files.read
read_so (Some file) ended status name middle new none (inl w) = ap (λ f. f.read) w.2
read_so (Some file) ended status name middle new none (inr w) = ap (λ f. f.read) w.2
read_so None ended status name middle new none some = ap (λ n. n.files.read) (none refl).1

-- and what was used
pub used_so : (file : Option (Vec ℕ Global)) (ended status : ℕ) (name : List ℕ) (middle new : SystemLog)
    → (IsNone file → (status ≡ ended) × (new ≡ middle))
    → IfSome file (λ f. IsWrittenOr name f.items ended status middle new)
    → new.files.used ≡ middle.files.used
used_so (Some file) ended status name middle new none (inl w) = ap (λ f. f.used) w.2
used_so (Some file) ended status name middle new none (inr w) = ap (λ f. f.used) w.2
used_so None ended status name middle new none some = ap (λ n. n.files.used) (none refl).1

-- what is said of a file beside the status
pub both : (Of : Vec ℕ Global → Type 0) (file : Option (Vec ℕ Global)) (ended : ℕ) → MatchOption file (0 < ended) (λ f. ended ≡ 0)
    → IfSome file Of → MatchOption file (0 < ended) (λ f. (ended ≡ 0) × Of f)
both Of (Some file) ended h of = (h, of)
both Of None ended h of = h

pub is_itself : (file : Option (Vec ℕ Global)) → IfSome file (λ f. file ≡ Some f)
is_itself (Some f) = refl
is_itself None = tt

-- a subcommand that ended with a status above 0 has no file
pub no_file : (Of : Vec ℕ Global → Type 0) (file : Option (Vec ℕ Global)) (ended : ℕ) → MatchOption file (0 < ended) (λ f. (ended ≡ 0) × Of f) → 0 < ended
    → IsNone file
no_file Of (Some file) ended h lt = no_less ended h.0 lt
no_file Of None ended h lt = refl

-- and one that ended with 0 has one
pub a_file : (Of : Vec ℕ Global → Type 0) (file : Option (Vec ℕ Global)) (ended : ℕ) → MatchOption file (0 < ended) (λ f. (ended ≡ 0) × Of f) → ended ≡ 0
    → IsSome file
a_file Of (Some file) ended h e = refl
a_file Of None ended h e = no_less ended e h

-- what is said of a file, and what is said of it if the writer did not fail
pub beside : (A B : Vec ℕ Global → Type 0) (failed : Bool) (file : Option (Vec ℕ Global)) → IfSome file A → (failed ≡ false → IfSome file B)
    → IfSome file (λ f. A f × (failed ≡ false → B f))
beside A B failed (Some file) a b = (a, b)
beside A B failed None a b = tt

-- all that was sent was passed on, and nothing was sent if there is a file
pub passed_on : {W : Type 0} (sent : W → Option (List ℕ)) (status : ℕ) (failed passed : Bool) (w w' : W) (file : Option (Vec ℕ Global))
    → (IsSome file → w' ≡ w) → (failed ≡ false → IsNone file → passed ≡ true) → IsPassedOn status failed passed (sent w) (sent w')
passed_on sent status failed passed w w' (Some file) silent told = λ other fine. inr (ap sent (silent refl))
passed_on sent status failed passed w w' None silent told = λ other fine. inl (told fine refl)

pub any : (file : Option (Vec ℕ Global)) → IfSome file (λ f. f ≡ f)
any (Some file) = refl
any None = tt

-- a subcommand that takes these steps could not begin
pub refuses : (steps : List Step) (status : ℕ) (old new : SystemLog) (printed : Option (List ℕ))
    → 0 < status → Asks steps status old.asked new.asked → new.files.written ≡ old.files.written → Refuses steps status (done old printed) (done new printed)
refuses steps status old new printed lt asks same = record { above_0 = lt; asks = asks; silent = refl; unwritten = same }

-- what holds of the status that `?` passes on
pub of_err : {T : Type 0} (r : Result T ℕ) (status : ℕ) (P : ℕ → Type 0) → IsErrAnd r (λ e. e ≡ status) → P status → IfErr r P
of_err (Err e) status P is h = subst P (sym is) h
of_err (Ok x) status P is h = tt
