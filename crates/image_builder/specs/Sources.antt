-- A whole source on a device: what is built of it, and why it is refused.
use Rattle.std.specs.Prelude.{◌≡◌, ℕ, zero, suc, cond, ◌+◌, ◌-◌, ◌<◌, ◌≤◌, ◌⊎◌, List, ◌++◌, length, take, drop, Option, Some}
use Rattle.block_buffers.specs.Calls.{failures}
use Rattle.block_buffers.specs.DeviceCalls.{DeviceCall}
use Rattle.block_buffers.specs.Disks.{Disk, called, succeeds}
use Rattle.block_buffers.specs.Likeness.{DidAs}
use Rattle.block_buffers.specs.ReadPages.{AreReadFrom}
use Rattle.block_buffers.specs.declared.devices.Device as device
use Rattle.image_loader.specs.Files.{Contents}
use Rattle.memory.specs.Bytes.{limit_of}
use Rattle.source_words.specs.Words.{SourceWord, source_words}
use Rattle.image_builder.specs.declared.cause.BuildFault.{BuildFault}
use Rattle.image_builder.specs.declared.cause.Cause.{Cause}
use Rattle.image_builder.specs.declared.cause.Cause.TheVariants as c
use Rattle.image_builder.specs.Places.{Place}
use Rattle.image_builder.specs.Spelled.{all_placed}
use Rattle.image_builder.specs.Items.{Items, image}
use Rattle.image_builder.specs.Stages.{Stage, IsFront}
use Rattle.image_builder.specs.Faults.{IsFault, IsGood}

-- the disk after k reads, each of which uses up a coming result
abbrev pub after_reads : ℕ → Disk → Disk
after_reads k d = record { blocks = d.blocks; coming = drop k d.coming }

-- n screens from a number on
abbrev pub screens : Disk → (from n : ℕ) → List (List ℕ)
screens d from n = take n (drop from d.blocks)

-- the words of the screens from..to
abbrev pub source_of : Disk → (from to : ℕ) → List SourceWord
source_of d from to = source_words from (screens d from (to + 1 - from))

-- each of them with what it may be
abbrev pub places_of : Disk → (from to : ℕ) → List Place
places_of d from to = all_placed (source_of d from to)

-- the device has all these screens
abbrev pub AreThere : Disk → (from to : ℕ) → Type 0
AreThere d from to = from ≤ to → to < length d.blocks

-- what a device did: the disk, and its count of failures before and after
pub record Done : Type 0 where
  pub disk : Option Disk
  pub before : ℕ
  pub after : ℕ

-- the same by what the device says: its disk after, and its calls before and after
abbrev pub done_of : Option Disk → (calls calls' : List DeviceCall) → Done
done_of disk calls calls' = record { disk = disk; before = failures calls; after = failures calls' }

-- of each disk as which a device did in its calls, something holds: of the disk before, and of what was done
abbrev pub ForDisks : (count : ℕ) → (calls calls' : List DeviceCall) → (Disk → Done → Type 0) → Type 0
ForDisks count calls calls' holds = (d e : Disk) → DidAs d e count calls calls' → holds d (done_of (Some e) calls calls')

-- the same of a device, before its calls and after them
abbrev pub ForDevice : {D : Type 0} → device.Ghosts D → (old new : D) → (Disk → Done → Type 0) → Type 0
ForDevice ds old new holds = ForDisks (ds.block_count old) (ds.calls old) (ds.calls new) holds

-- nothing is wrong with these words, whatever comes after them
pub record IsFaultless (limit : ℕ) (source : List SourceWord) : Type 0 where
  pub items : Items
  pub words : List Place
  pub stage : Stage
  pub front : IsFront limit (all_placed source) items words stage

-- the source on these pages is good, and its image for so many buffers is this one
pub record IsBuiltOfPages (buffers from : ℕ) (pages : List (List ℕ)) (built : Contents) : Type 0 where
  pub for_buffers : built.buffers ≡ buffers
  pub items : Items
  pub good : IsGood (limit_of buffers) (all_placed (source_words from pages)) items built.entry
  pub is : built.bytes ≡ image items

-- the screens from..to of a device of so many blocks were read, and the image is that of their pages
pub record IsBuiltOfRead (buffers count from to : ℕ) (built : Contents) (calls calls' : List DeviceCall) : Type 0 where
  pub are : AreReadFrom from (to + 1 - from) count calls calls'
  pub is : IsBuiltOfPages buffers from are.pages built

-- the source is good, its image for so many buffers is this one, and each of its screens was read once
pub record IsBuiltOf (count : ℕ) (d : Disk) (from to : ℕ) (built : Contents) (done : Done) : Type 0 where
  pub there : AreThere d from to
  pub buffers : built.buffers ≡ count
  pub items : Items
  pub good : IsGood (limit_of count) (places_of d from to) items built.entry
  pub is : built.bytes ≡ image items
  pub disk : done.disk ≡ Some (after_reads (to + 1 - from) d)
  pub failures : done.after ≡ done.before

-- how many of n screens from a number on can be read, one after another
unfoldable pub readable : Disk → (from n : ℕ) → ℕ
readable d from zero = 0
readable d from (suc n) = cond (succeeds d from) (suc (readable (called d) (from + 1) n)) 0

-- all of the screens from..to can be read
abbrev pub AllReadable : Disk → (from to : ℕ) → Type 0
AllReadable d from to = readable d from (to + 1 - from) ≡ to + 1 - from

-- the words of those that can be read
abbrev pub readable_words : Disk → (from to : ℕ) → List SourceWord
readable_words d from to = source_words from (screens d from (readable d from (to + 1 - from)))

-- the screens from..to are a good source
abbrev pub AreGood : ℕ → Disk → (from to : ℕ) → Type 0
AreGood limit d from to = (items : Items) × (entry : ℕ) × IsGood limit (places_of d from to) items entry

-- the first fault of the screens from..to
abbrev pub IsFirstFault : ℕ → Disk → (from to : ℕ) → BuildFault → Type 0
IsFirstFault limit d from to e = IsFault limit (places_of d from to) to e.screen e.offset e.cause

-- what is wrong with the screens from..to: lack of memory, reported for the first screen; the first screen that can't be read,
-- if nothing is wrong with the words before it; what is missing at the end, if all can be read; or the first word at fault
abbrev pub IsWrong : (limit : ℕ) → Disk → (from to screen offset : ℕ) → Cause → Type 0
IsWrong limit d from to screen offset c.OutOfMemory = (screen ≡ from) × (offset ≡ 0)
IsWrong limit d from to screen offset c.Device =
    (screen ≡ from + readable d from (to + 1 - from)) × (screen ≤ to) × (offset ≡ 0) × IsFaultless limit (readable_words d from to)
IsWrong limit d from to screen offset c.EndsInside = AllReadable d from to × IsFault limit (all_placed (readable_words d from to)) to screen offset c.EndsInside
IsWrong limit d from to screen offset c.NoBoot = AllReadable d from to × IsFault limit (all_placed (readable_words d from to)) to screen offset c.NoBoot
IsWrong limit d from to screen offset cause = IsFault limit (all_placed (readable_words d from to)) to screen offset cause

-- the refusal of the screens from..to of this disk; there is one, lack of memory aside
abbrev pub IsRefusal : (limit : ℕ) → Disk → (from to : ℕ) → BuildFault → Type 0
IsRefusal limit d from to e = IsWrong limit d from to e.screen e.offset e.cause

-- k screens decide: this is the first fault, however the source goes on after them
abbrev pub IsDecided : ℕ → Disk → (from to k : ℕ) → BuildFault → Type 0
IsDecided limit d from to k e =
    (rest : List SourceWord) → IsFault limit (all_placed (source_words from (screens d from k) ++ rest)) to e.screen e.offset e.cause

-- how many screens, k, a refusal asks for, and whether one of these reads fails: those that can be read, and the next one if
-- the device has it; all of them; or as many as decide, and no fewer
abbrev pub AsksFor : ℕ → Disk → (from to k screen offset : ℕ) → Cause → Done → Type 0
AsksFor limit d from to k screen offset c.OutOfMemory done = done.after ≡ done.before
AsksFor limit d from to k screen offset c.Device done =
    ((length d.blocks ≤ screen) × (from + k ≡ screen) × (done.after ≡ done.before))
    ⊎ ((screen < length d.blocks) × (from + k ≡ screen + 1) × (done.after ≡ done.before + 1))
AsksFor limit d from to k screen offset c.EndsInside done = (k ≡ to + 1 - from) × (done.after ≡ done.before)
AsksFor limit d from to k screen offset c.NoBoot done = (k ≡ to + 1 - from) × (done.after ≡ done.before)
AsksFor limit d from to k screen offset cause done =
    (done.after ≡ done.before) × IsFaultless limit (source_words from (screens d from (k - 1))) × IsDecided limit d from to k (record { screen = screen; offset = offset; cause = cause })

-- they are refused so, after one read each of the first k of them, in order
pub record IsRefused (limit : ℕ) (d : Disk) (from to : ℕ) (e : BuildFault) (done : Done) : Type 0 where
  pub is : IsWrong limit d from to e.screen e.offset e.cause
  pub k : ℕ
  pub few : k ≤ to + 1 - from
  pub disk : done.disk ≡ Some (after_reads k d)
  pub asks : AsksFor limit d from to k e.screen e.offset e.cause done
