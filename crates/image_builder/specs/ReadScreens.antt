-- How far the screens of a source are read. No public clause speaks of it.
use Rattle.std.specs.Prelude.{◌≡◌, ℕ, true, false, ◌+◌, ◌-◌, ◌<◌, ◌≤◌, ◌⊎◌, List, ◌++◌, ◌∷◌, [], length, Some, Result, Ok, Err}
use Rattle.block_buffers.specs.DeviceCalls.{DeviceCall, WasRead}
use Rattle.block_buffers.specs.Disks.{Disk, block_at, called, succeeds}
use Rattle.source_words.specs.declared.modes.Mode.{Mode}
use Rattle.source_words.specs.declared.modes.Mode.TheVariants.{Outside}
use Rattle.source_words.specs.declared.scanner.Scanner.{Scanner}
use Rattle.source_words.specs.Words.{SourceWord, screen_words, after_words, source_words}
use Rattle.source_words.specs.Scanned.{words_left}
use Rattle.image_builder.specs.declared.reading.Compilation.{Compilation}
use Rattle.image_builder.specs.declared.reading.Stop.{Stop}
use Rattle.image_builder.specs.declared.reading.Stop.TheVariants as stop
use Rattle.image_builder.specs.declared.cause.BuildFault.{BuildFault}
use Rattle.image_builder.specs.declared.cause.Cause.{Cause}
use Rattle.image_builder.specs.declared.cause.Cause.TheVariants as c
use Rattle.image_builder.specs.Places.{Place}
use Rattle.image_builder.specs.Spelled.{all_placed}
use Rattle.image_builder.specs.Items.{Items, item_words}
use Rattle.image_builder.specs.Stages.{Stage}
use Rattle.image_builder.specs.Faults.{IsFault}
use Rattle.image_builder.specs.State.{Shows, IsState}
use Rattle.image_builder.specs.Sources.{AllReadable, Done, IsFaultless, after_reads, readable, screens}

-- it took these words
pub record Holds (limit : ℕ) (k : Compilation) (front : List SourceWord) : Type 0 where
  pub items : Items
  pub words : List Place
  pub stage : Stage
  pub shows : Shows k.begun words stage
  pub is : IsState limit k.build items words stage
  pub split : all_placed front ≡ item_words items ++ words

-- it took some words
pub record IsHeld (limit : ℕ) (k : Compilation) : Type 0 where
  pub front : List SourceWord
  pub holds : Holds limit k front

-- whatever comes after these words, and whatever the last screen is, the first fault is this one
abbrev pub IsFaultOf : ℕ → List SourceWord → BuildFault → Type 0
IsFaultOf limit front f = (rest : List SourceWord) (last : ℕ) → IsFault limit (all_placed (front ++ rest)) last f.screen f.offset f.cause

-- what came of one more word
abbrev pub Takes : ℕ → List SourceWord → SourceWord → Result (Unit {0}) BuildFault → Compilation → Type 0
Takes limit front w (Ok _) k = Holds limit k (front ++ w ∷ [])
Takes limit front w (Err f) k = IsFaultOf limit (front ++ w ∷ []) f

-- the words of a screen were taken, after those before it
abbrev pub TakesAll : ℕ → Mode → List SourceWord → List SourceWord → Result Mode Stop → Compilation → Type 0
TakesAll limit m front ws (Ok next) k = Holds limit k (front ++ ws) × (next ≡ after_words m ws)
TakesAll limit m front ws (Err (stop.Device s)) k = ⊥
TakesAll limit m front ws (Err (stop.Word f)) k = IsFaultOf limit (front ++ ws) f

-- of these words, the first are taken, and the scanner has the others left
pub record Midway (limit : ℕ) (m : Mode) (words : List SourceWord) (old new : Compilation) (scanner : Scanner) : Type 0 where
  pub done : List SourceWord
  pub split : words ≡ done ++ words_left scanner
  pub mode : scanner.mode ≡ after_words m done
  pub took : (front : List SourceWord) → Holds limit old front → Holds limit new (front ++ done)

-- a screen was read, or is none of the device's, and nothing was asked
pub record HasRead (d : Disk) (s : ℕ) (done : Done) : Type 0 where
  pub there : s < length d.blocks
  pub succeeds_is : succeeds d s ≡ true
  pub disk : done.disk ≡ Some (called d)
  pub failures : done.after ≡ done.before

-- the device has the screen, and its read failed
pub record HasFailed (d : Disk) (s : ℕ) (done : Done) : Type 0 where
  pub there : s < length d.blocks
  pub fails : succeeds d s ≡ false
  pub disk : done.disk ≡ Some (called d)
  pub failures : done.after ≡ done.before + 1

pub record IsNotThere (d : Disk) (s : ℕ) (done : Done) : Type 0 where
  pub past : length d.blocks ≤ s
  pub disk : done.disk ≡ Some d
  pub failures : done.after ≡ done.before

-- a screen that the device has was read; or it stopped there, after some calls
abbrev pub Asks : (screen count : ℕ) → Result Mode Stop → (calls calls' : List DeviceCall) → Type 0
Asks s count (Ok next) calls calls' = (page : List ℕ) × (calls' ≡ calls ++ WasRead s page ∷ []) × (s < count)
Asks s count (Err why) calls calls' = (made : List DeviceCall) × (calls' ≡ calls ++ made)

-- one screen more
abbrev pub TakesScreen : ℕ → Disk → ℕ → Mode → List SourceWord → Result Mode Stop → (old new : Compilation) → Done → Type 0
TakesScreen limit d s m front (Ok next) old k done =
    HasRead d s done × TakesAll limit m front (screen_words m s (block_at d.blocks s)) (Ok next) k
TakesScreen limit d s m front (Err (stop.Device u)) old k done = (u ≡ s) × Holds limit old front × (HasFailed d s done ⊎ IsNotThere d s done)
TakesScreen limit d s m front (Err (stop.Word f)) old k done =
    Holds limit old front × HasRead d s done × TakesAll limit m front (screen_words m s (block_at d.blocks s)) (Err (stop.Word f)) k

-- so for whatever words were taken before it
abbrev pub TakesNextScreen : Disk → ℕ → Mode → Result Mode Stop → (old new : Compilation) → Done → Type 0
TakesNextScreen d s m result old new done =
    (limit : ℕ) (front : List SourceWord) → Holds limit old front → TakesScreen limit d s m front result old new done

-- the screens from `from` on are taken, up to s
pub record Underway (limit : ℕ) (d : Disk) (from s : ℕ) (m : Mode) (k : Compilation) (done : Done) : Type 0 where
  pub above : from ≤ s
  pub there : from < s → s ≤ length d.blocks
  pub all : readable d from (s - from) ≡ s - from
  pub took : Holds limit k (source_words from (screens d from (s - from)))
  pub mode : m ≡ after_words Outside (source_words from (screens d from (s - from)))
  pub disk : done.disk ≡ Some (after_reads (s - from) d)
  pub failures : done.after ≡ done.before

-- all screens were read, and all their words taken
pub record TookAll (limit : ℕ) (d : Disk) (from to : ℕ) (k : Compilation) (done : Done) : Type 0 where
  pub there : from ≤ to → to < length d.blocks
  pub all : AllReadable d from to
  pub took : Holds limit k (source_words from (screens d from (to + 1 - from)))
  pub disk : done.disk ≡ Some (after_reads (to + 1 - from) d)
  pub failures : done.after ≡ done.before

-- what stopped it, once k screens were asked for
abbrev pub Why : ℕ → Disk → (from to k : ℕ) → Stop → Done → Type 0
Why limit d from to k (stop.Device s) done =
    (s ≡ from + readable d from (to + 1 - from)) × (s ≤ to)
    × IsFaultless limit (source_words from (screens d from (s - from)))
    × (((length d.blocks ≤ s) × (from + k ≡ s) × (done.after ≡ done.before))
    ⊎ ((s < length d.blocks) × (from + k ≡ s + 1) × (done.after ≡ done.before + 1)))
Why limit d from to k (stop.Word f) done =
    (k ≤ readable d from (to + 1 - from)) × (done.after ≡ done.before)
    × IsFaultless limit (source_words from (screens d from (k - 1))) × IsFaultOf limit (source_words from (screens d from k)) f

-- it stopped after one read each of the first k of the screens, in order
pub record Stopped (limit : ℕ) (d : Disk) (from to : ℕ) (why : Stop) (done : Done) : Type 0 where
  pub k : ℕ
  pub few : k ≤ to + 1 - from
  pub disk : done.disk ≡ Some (after_reads k d)
  pub because : Why limit d from to k why done

abbrev pub TakesScreens : ℕ → Disk → (from to : ℕ) → Result (Unit {0}) Stop → Compilation → Done → Type 0
TakesScreens limit d from to (Ok _) k done = TookAll limit d from to k done
TakesScreens limit d from to (Err why) k done = Stopped limit d from to why done

-- what stopped the reading, as a refusal: lack of memory is reported for the first screen
abbrev pub settled : (screen offset : ℕ) → Cause → (from : ℕ) → BuildFault
settled screen offset c.OutOfMemory from = record { screen = from; offset = 0; cause = c.OutOfMemory }
settled screen offset e from = record { screen = screen; offset = offset; cause = e }

abbrev pub refusal : Stop → (from : ℕ) → BuildFault
refusal (stop.Device s) from = record { screen = s; offset = 0; cause = c.Device }
refusal (stop.Word f) from = settled f.screen f.offset f.cause from
