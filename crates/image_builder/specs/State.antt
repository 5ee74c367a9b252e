-- How far a source was read, and what one more word does.
use Rattle.std.specs.Prelude.{Bool, true, false, ◌≡◌, ℕ, ◌+◌, ◌<◌, ◌≤◌, ◌⊎◌, List, [], ◌∷◌, ◌++◌, Option, Some, None, Result, Ok, Err}
use Rattle.colon_bodies.specs.Draft.{IsBlank, Progress, token, Drafts as BodyDrafts, Goes as BodyGoes}
use Rattle.colon_bodies.specs.declared.draft.Draft.{Draft}
use Rattle.colon_bodies.specs.declared.words.Half.{Half}
use Rattle.colon_bodies.specs.Faults.{body_cause}
use Rattle.colon_bodies.specs.Rules.{AreKnown}
use Rattle.colon_bodies.specs.Tokens.{AreShort, Token, SEMI}
use Rattle.colon_bodies.specs.Open.{Outer, open_depth, open_words}
use Rattle.colon_bodies.specs.declared.fault.BodyCause.{BodyCause}
use Rattle.image_builder.specs.Causes.{cause_of}
use Rattle.colon_bodies.specs.Tree.{Body, Definition, all_words, all_nesting}
use Rattle.memory.specs.Bytes.{cell_bytes}
use Rattle.colon_bodies.specs.declared.words.BodyWord.{BodyWord}
use Rattle.image_builder.specs.Names.{Name, address}
use Rattle.image_builder.specs.declared.state.Build.{Build}
use Rattle.image_builder.specs.declared.entry.Kind.{Kind}
use Rattle.image_builder.specs.declared.entry.Kind.TheVariants.{Primitive}
use Rattle.image_builder.specs.declared.state.Begun.{Begun}
use Rattle.image_builder.specs.declared.state.Begun.TheVariants as g
use Rattle.image_builder.specs.declared.state.Site.{Site}
use Rattle.image_builder.specs.declared.state.Title.{Title}
use Rattle.image_builder.specs.declared.cause.Cause.{Cause}
use Rattle.image_builder.specs.declared.cause.BuildFault.{BuildFault}
use Rattle.image_builder.specs.declared.spot.Sort.{Sort}
use Rattle.image_builder.specs.declared.spot.Sort.TheVariants as s
use Rattle.image_builder.specs.declared.cause.Cause.TheVariants as c
use Rattle.image_builder.specs.Places.{Place, IsTitle}
use Rattle.image_builder.specs.Items.{Items, Then, Colon, item_words, item_size, end_of, controls, image}
use Rattle.image_builder.specs.Meanings.{is_name_barred}
use Rattle.image_builder.specs.Grammar.{may_name, AreSound}
use Rattle.image_builder.specs.Stages.{Stage, Whole, Counted, Due, Chosen, Inside, body_at}
use Rattle.image_builder.specs.Faults.{cause_at, IsGood}
use Rattle.image_builder.specs.Stages as stages
use Rattle.image_builder.specs.Built.{Built}

-- the words are one, which exists
abbrev pub IsAtSite : Site → List Place → Type 0
IsAtSite a ws = (p : Place) × (ws ≡ p ∷ []) × (a.screen ≡ p.screen) × (a.offset ≡ p.offset)

-- the code's word for a stage
abbrev pub Shows : Begun → List Place → Stage → Type 0
Shows g.Whole ws Whole = Unit {0}
Shows (g.Counted n a) ws (Counted m) = (n ≡ m) × IsAtSite a ws
Shows (g.Due l) ws (Due k) = l ≡ k
Shows (g.Chosen v) ws (Chosen u) = v ≡ u
Shows (g.Inside p) ws (Inside q before) = IsTitle p.screen p.name.items q
Shows _ ws _ = ⊥

abbrev pub Drafts : ℕ → Build → Items → Stage → Type 0
Drafts limit b t (Inside p before) = Progress (controls t) (body_at t p) limit before b.draft
Drafts limit b t _ = IsBlank b.draft

pub record IsState (limit : ℕ) (b : Build) (t : Items) (ws : List Place) (stage : Stage) : Type 0 where
  pub built : Built limit b t
  pub sound : AreSound limit t
  pub begun : stages.Begun limit t ws stage
  pub drafts : Drafts limit b t stage

-- one more word was taken
pub record Goes (limit : ℕ) (b : Build) (begun : Begun) (t : Items) (ws : List Place) (w : Place) : Type 0 where
  pub items : Items
  pub words : List Place
  pub stage : Stage
  pub shows : Shows begun words stage
  pub is : IsState limit b items words stage
  pub front : item_words items ++ words ≡ item_words t ++ (ws ++ w ∷ [])

abbrev pub Taken : ℕ → Items → List Place → Stage → Place → List Place → Result Begun Cause → Build → Type 0
Taken limit t ws stage w after (Ok begun) b = Goes limit b begun t ws w
Taken limit t ws stage w after (Err e) b = (e ≡ c.OutOfMemory) ⊎ (cause_at limit t stage w after ≡ Some e)

-- what the code's word means
abbrev pub Means : Result BodyWord Cause → Result Token Cause → Type 0
Means (Ok w) m = m ≡ Ok (token w)
Means (Err e) m = m ≡ Err e

abbrev pub Looks : Half → Option Name → Result (Option ℕ) Cause → Type 0
Looks h None (Ok (Some a)) = ⊥
Looks h None (Ok None) = Unit {0}
Looks h None (Err e) = ⊥
Looks h (Some n) (Ok None) = ⊥
Looks h (Some n) (Ok (Some a)) = (is_name_barred h n ≡ false) × (a ≡ address n)
Looks h (Some n) (Err e) = (is_name_barred h n ≡ true) × (e ≡ c.Misplaced)

-- a definition is started
pub record Somewhere (b : Build) (title : Title) : Type 0 where
  pub items : Items
  pub words : List Place
  pub before : List Token
  pub place : Place
  pub titled : IsTitle title.screen title.name.items place
  pub is : IsState b.limit b items words (Inside place before)

-- what holds within the body of a definition with this title, after these items and words
abbrev pub InBody : Build → Title → Items → List Place → List Token → Place → Type 0 → Type 0
InBody b title t ws before p holds = IsTitle title.screen title.name.items p → IsState b.limit b t ws (Inside p before) → holds

-- what came of one more word of a draft
abbrev pub TakenSo : ℕ → (ℕ → ℕ) → ℕ → Outer → Body → Half → Token → Result (Unit {0}) Cause → Build → Type 0
TakenSo limit rt at o t h w (Ok u) b = BodyGoes rt at limit o t h w b.draft
TakenSo limit rt at o t h w (Err e) b = (e ≡ c.OutOfMemory) ⊎ ((d : BodyCause) × (e ≡ cause_of d) × (body_cause rt at limit (open_words o t h) w ≡ Some d))

-- so of a draft, whatever words are in it
abbrev pub DraftsWord : ℕ → (ℕ → ℕ) → ℕ → Token → Draft → Result (Unit {0}) Cause → Build → Type 0
DraftsWord limit rt at w draft result b =
    (o : Outer) (t : Body) (h : Half) → BodyDrafts rt at o t h draft → open_depth o t ≤ 64 → TakenSo limit rt at o t h w result b

pub record IsSame (old new : Build) : Type 0 where
  pub limit : new.limit ≡ old.limit
  pub image : new.image ≡ old.image
  pub names : new.names ≡ old.names
  pub runtime : new.runtime ≡ old.runtime
  pub current : new.current ≡ old.current
  pub newest_record : new.newest_record ≡ old.newest_record
  pub boot : new.boot ≡ old.boot

-- what came of a draft's ;
pub record Ends (limit : ℕ) (t : Items) (p : Place) (before : List Token) (b : Build) : Type 0 where
  pub body : Definition
  pub is : before ≡ all_words body
  pub shallow : all_nesting body ≤ 64
  pub known : AreKnown (controls t) (all_words body ++ SEMI ∷ [])
  pub short : AreShort (all_words body)
  pub room : end_of t + item_size (Colon p body) ≤ limit
  pub built : (ws : List Place) → Built limit b (Then t ws (Colon p body))
  pub drafts : IsBlank b.draft

abbrev pub EndsSo : ℕ → Items → Place → List Token → Result (Unit {0}) Cause → Build → Type 0
EndsSo limit t p before (Ok u) b = Ends limit t p before b
EndsSo limit t p before (Err e) b = (e ≡ c.OutOfMemory) ⊎ ((d : BodyCause) × (e ≡ cause_of d) × (body_cause (controls t) (body_at t p) limit before SEMI ≡ Some d))

-- the number of a primitive to be made is a byte
abbrev pub IsByte : Kind → Type 0
IsByte (Primitive n) = n < 256
IsByte _ = Unit {0}

-- some source was read so far
pub record IsBegun (b : Build) (g : Begun) : Type 0 where
  pub items : Items
  pub words : List Place
  pub stage : Stage
  pub shows : Shows g words stage
  pub is : IsState b.limit b items words stage

-- what a number's own fault is, once the next word is known
abbrev pub OfNumber : Items → (n : ℕ) → Sort → Option Cause → Type 0
OfNumber t n sort None = (sort ≡ s.Prim → may_name t n ≡ true) × (sort ≡ s.Allot → n < 32768)
OfNumber t n sort (Some e) = ((sort ≡ s.Prim) × (may_name t n ≡ false) × (e ≡ c.BadPrimitive)) ⊎ ((sort ≡ s.Allot) × (32768 ≤ n) × (e ≡ c.BadNumber))

-- a fault at a word, or at the number before it
pub record Here (limit : ℕ) (t : Items) (stage : Stage) (w : Place) (after : List Place) (f : BuildFault) : Type 0 where
  pub cause : cause_at limit t stage w after ≡ Some f.cause
  pub screen : f.screen ≡ w.screen
  pub offset : f.offset ≡ w.offset

pub record Back (limit : ℕ) (t : Items) (ws : List Place) (w : Place) (after : List Place) (f : BuildFault) : Type 0 where
  pub number : Place
  pub is : ws ≡ number ∷ []
  pub cause : cause_at limit t Whole number (w ∷ after) ≡ Some f.cause
  pub screen : f.screen ≡ number.screen
  pub offset : f.offset ≡ number.offset

abbrev pub TakenAt : ℕ → Items → List Place → Stage → Place → List Place → Result Begun BuildFault → Build → Type 0
TakenAt limit t ws stage w after (Ok begun) b = Goes limit b begun t ws w
TakenAt limit t ws stage w after (Err f) b = (f.cause ≡ c.OutOfMemory) ⊎ Here limit t stage w after f ⊎ Back limit t ws w after f

-- a fault at a place
abbrev pub located : (screen offset : ℕ) → Result Begun Cause → Result Begun BuildFault
located screen offset (Ok begun) = Ok begun
located screen offset (Err e) = Err (record { screen = screen; offset = offset; cause = e })

-- how far a source was read
pub record IsRead (limit : ℕ) (b : Build) (g : Begun) (done : List Place) : Type 0 where
  pub items : Items
  pub words : List Place
  pub stage : Stage
  pub shows : Shows g words stage
  pub is : IsState limit b items words stage
  pub front : done ≡ item_words items ++ words

-- the bytes of cells
abbrev pub all_cells : List ℕ → List ℕ
all_cells [] = []
all_cells (x ∷ xs) = cell_bytes x ++ all_cells xs

-- what a source is built to
pub record IsBuilt (limit : ℕ) (source : List Place) (bytes : List ℕ) (entry : ℕ) : Type 0 where
  pub items : Items
  pub good : IsGood limit source items entry
  pub is : bytes ≡ image items

abbrev pub tells_whole : Begun → Bool
tells_whole g.Whole = true
tells_whole _ = false
