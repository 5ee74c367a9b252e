-- What the subcommands that are given files by name did.
use Rattle.std.specs.Prelude.{◌≡◌, ◌≢◌, ◌⊎◌, ◌<◌, ◌+◌, ◌-◌, ◌*◌, ℕ, List, [], ◌∷◌, map, length, eqb, Bool, false, Option, Some, None, Vec, option_map, unwrap_or, codes, IfSome, All}
use Rattle.std.specs.declared.alloc.Global.{Global}
use Rattle.std.specs.List.{slice_split}
use Rattle.std.specs.Str.Parse.{IsNumeral, digits_value, without_leading_plus}
use Rattle.block_buffers.specs.DeviceCalls.{DeviceCall}
use Rattle.block_buffers.specs.Disks.{Disk as Blocks}
use Rattle.block_buffers.specs.Likeness.{DidAs}
use Rattle.containers.specs.Containers as written
use Rattle.containers.specs.Containers.{IsWhy, new_container, unread, unwritten}
use Rattle.containers.specs.Formats.{changed, layout_of, name_of}
use Rattle.containers.specs.Layouts.{Layout, misfit}
use Rattle.containers.specs.declared.cause.Cause.{Cause}
use Rattle.containers.specs.declared.cause.Cause.TheVariants.{TooLarge}
use Rattle.containers.specs.declared.formats.Format.{Format}
use Rattle.file_subcommands.specs.declared.disks.Disk.{Disk}
use Rattle.memory.specs.Bytes.{IsCount}
use Rattle.named_files.specs.Asking.{Answered, Asks, Refused, Step, step}
use Rattle.named_files.specs.Done.{Done, Makes, Reads, ReadsBoth, Refuses}
use Rattle.named_files.specs.Trying.{OnlyReads}
use Rattle.named_files.specs.Uses.{with_all}
use Rattle.named_files.specs.declared.step_log.Deed.TheVariants as deed
use Rattle.image_builder.specs.Sources.{ForDisks, done_of}
use Rattle.screen_text.specs.Reading.{read}
use Rattle.subcommands.specs.Disks.{IsImported, PrintsCause, PrintsUnread}
use Rattle.subcommands.specs.Ends.{IsRefusal}
use Rattle.subcommands.specs.Images.{IsFileOfRead}
use Rattle.subcommands.specs.Kernel.{blanks, blocks_of, filled}
use Rattle.subcommands.specs.Lines.{EndsSeen, EndsUnbuilt, EndsViewed, HasRoom, IsTold, IsTooLarge, IsUpgraded, OfImageFile, PrintsNoImage, PrintsOutOfMemory, PrintsTooLarge, upgraded}
use Rattle.subcommands.specs.Texts.{EndsHeadings, EndsText, EndsUnwritten, HasPrinted, HasScreens}
use Rattle.subcommands.specs.declared.kernel_text.TheConstants.{TEXT}

-- what a subcommand that ended with this status printed before its file was written: nothing, or that memory ran out
pub record IsSilent (failed : Bool) (ended : ℕ) (old new : Option (List ℕ)) : Type 0 where
  pub silent : ended ≡ 0 → new ≡ old
  pub wanting : failed ≡ false → 0 < ended → PrintsOutOfMemory ended old new

-- what `kernel BLOCKS` asks of the system before it makes its file
abbrev pub kernel_steps : (blocks : List ℕ) → List Step
kernel_steps blocks = step deed.Hold (blocks ∷ []) ∷ []

-- `kernel BLOCKS`, once these steps were taken
pub record MakesKernel (blocks : List ℕ) (status : ℕ) (failed : Bool) (old new : Done) : Type 0 where
  pub ended : ℕ
  pub reads : new.read ≡ old.read
  pub prints : IsSilent failed ended old.sent new.sent
  pub makes : Makes (kernel_steps blocks) blocks ended status old new (λ file. file.items ≡ filled 65536 (blocks_of TEXT.now))

abbrev pub new_steps : (blocks : List ℕ) → List Step
new_steps blocks = step deed.KeepAbsent (blocks ∷ []) ∷ []

-- `new BLOCKS N` could not begin: a file has no more than 65,536 blocks, or a step was refused
abbrev pub RefusesNew : (blocks : List ℕ) → (count : ℕ) → (status : ℕ) → (old new : Done) → Type 0
RefusesNew blocks count status old new =
    ((65536 < count) × Refuses (step deed.Take (codes "a file" ∷ []) ∷ []) status old new) ⊎ Refuses (new_steps blocks) status old new

-- `new BLOCKS N`
pub record MakesNew (blocks : List ℕ) (count : ℕ) (status : ℕ) (failed : Bool) (old new : Done) : Type 0 where
  pub ended : ℕ
  pub reads : new.read ≡ old.read
  pub prints : IsSilent failed ended old.sent new.sent
  pub makes : Makes (new_steps blocks) blocks ended status old new (λ file. file.items ≡ blanks (1024 * count))

-- `see` and `view` read the image's file
abbrev pub image_steps : (image : List ℕ) → List Step
image_steps image = step deed.Read (image ∷ []) ∷ []

-- `see IMAGE NAME`
pub record Sees (image name : List ℕ) (status : ℕ) (failed : Bool) (old new : Done) : Type 0 where
  pub asks : Asks (image_steps image) 0 old.asked new.asked
  pub bytes : List ℕ
  pub reads : Reads image bytes old new
  pub unwritten : new.written ≡ old.written
  pub seen : failed ≡ false → OfImageFile bytes (λ file. EndsSeen file name status old.sent new.sent)
  pub refused : failed ≡ false → PrintsNoImage bytes status old.sent new.sent

-- `view IMAGE NAME`
pub record Views (image name : List ℕ) (status : ℕ) (failed : Bool) (old new : Done) : Type 0 where
  pub asks : Asks (image_steps image) 0 old.asked new.asked
  pub bytes : List ℕ
  pub reads : Reads image bytes old new
  pub unwritten : new.written ≡ old.written
  pub viewed : failed ≡ false → OfImageFile bytes (λ file. EndsViewed file name status old.sent new.sent)
  pub refused : failed ≡ false → PrintsNoImage bytes status old.sent new.sent

abbrev pub upgrade_steps : (image out : List ℕ) → List Step
upgrade_steps image out = step deed.KeepImage (out ∷ []) ∷ step deed.Read (image ∷ []) ∷ []

-- so many block buffers can't be: an image has from 2 to 16
abbrev pub RefusesBuffers : Type 0 → (status : ℕ) → (old new : Done) → Type 0
RefusesBuffers Fit status old new = ¬ Fit × Refuses (step deed.Take (codes "--buffers" ∷ []) ∷ []) status old new

abbrev pub RefusesUpgrade : (image out : List ℕ) → (buffers : Option ℕ) → (status : ℕ) → (old new : Done) → Type 0
RefusesUpgrade image out buffers status old new =
    RefusesBuffers (IfSome buffers IsCount) status old new ⊎ Refuses (upgrade_steps image out) status old new

-- `upgrade IMAGE OUT`
pub record Upgrades (image out : List ℕ) (buffers : Option ℕ) (status : ℕ) (failed : Bool) (old new : Done) : Type 0 where
  pub bytes : List ℕ
  pub reads : Reads image bytes old new
  pub ended : ℕ
  pub makes : Makes (upgrade_steps image out) out ended status old new
      (λ file. failed ≡ false → OfImageFile bytes (λ i. IsUpgraded file.items (upgraded i buffers) old.sent new.sent))
  pub refused : failed ≡ false → PrintsNoImage bytes ended old.sent new.sent
  pub too_large : failed ≡ false → OfImageFile bytes (λ i. IsTooLarge i buffers → PrintsTooLarge ended old.sent new.sent)
  pub wanting : failed ≡ false → 0 < ended → OfImageFile bytes (λ i. HasRoom i buffers → PrintsOutOfMemory ended old.sent new.sent)

abbrev pub screens_steps : (text blocks : List ℕ) → List Step
screens_steps text blocks =
    step deed.KeepApart (text ∷ blocks ∷ []) ∷ step deed.Read (text ∷ []) ∷ step deed.KeepBlocks (blocks ∷ [])
    ∷ step deed.Hold (blocks ∷ []) ∷ step deed.Read (blocks ∷ []) ∷ []

-- `screens TEXT BLOCKS`; the blocks have no bytes if they don't exist
pub record MakesScreens (text blocks : List ℕ) (status : ℕ) (failed : Bool) (old new : Done) : Type 0 where
  pub typed : List ℕ
  pub before : List ℕ
  pub reads : ReadsBoth text typed blocks before old new
  pub ended : ℕ
  pub makes : Makes (screens_steps text blocks) blocks ended status old new (λ file. HasScreens (read typed) before file.items)
  pub silent : ended ≡ 0 → new.sent ≡ old.sent
  pub refused : failed ≡ false → 0 < ended → EndsUnwritten (read typed) ended old.sent new.sent

abbrev pub headings_steps : (text : List ℕ) → List Step
headings_steps text = step deed.Read (text ∷ []) ∷ []

-- `headings TEXT`
pub record ListsHeadings (text : List ℕ) (status : ℕ) (failed : Bool) (old new : Done) : Type 0 where
  pub asks : Asks (headings_steps text) 0 old.asked new.asked
  pub bytes : List ℕ
  pub reads : Reads text bytes old new
  pub unwritten : new.written ≡ old.written
  pub listed : failed ≡ false → EndsHeadings bytes status old.sent new.sent

abbrev pub text_steps : (blocks : List ℕ) → List Step
text_steps blocks = step deed.KeepBlocks (blocks ∷ []) ∷ step deed.OpenToRead (blocks ∷ []) ∷ []

-- `text BLOCKS FROM TO`: with status 0 the text of the pages was printed that were read of the blocks before they were handed back; and what
-- was printed is that of each disk as which the blocks did
pub record Prints (blocks : List ℕ) (from to : ℕ) (status : ℕ) (failed : Bool) (old new : Done) : Type 0 where
  pub asks : Asks (text_steps blocks) 0 old.asked new.asked
  pub reads : new.read ≡ old.read
  pub unwritten : new.written ≡ old.written
  pub count : ℕ
  pub calls : List DeviceCall
  pub used : new.used ≡ with_all old.used count calls
  pub printed : failed ≡ false → status ≡ 0 → HasPrinted from (to + 1 - from) count [] calls old.sent new.sent
  pub ends : failed ≡ false → ForDisks count [] calls (λ d e. EndsText d from to status old.sent new.sent)

abbrev pub build_steps : (blocks image : List ℕ) → List Step
build_steps blocks image =
    step deed.KeepApart (blocks ∷ image ∷ []) ∷ step deed.KeepImage (image ∷ []) ∷ step deed.KeepBlocks (blocks ∷ []) ∷ step deed.OpenToRead (blocks ∷ []) ∷ []

abbrev pub RefusesBuild : (blocks image : List ℕ) → (buffers : ℕ) → (status : ℕ) → (old new : Done) → Type 0
RefusesBuild blocks image buffers status old new =
    RefusesBuffers (IsCount buffers) status old new ⊎ Refuses (build_steps blocks image) status old new

-- `build BLOCKS FROM TO IMAGE`: the image is that of the pages that were read of the blocks. Before they were handed back, more may have been
-- read, to show where the source is refused.
pub record Builds (blocks : List ℕ) (from to : ℕ) (image : List ℕ) (buffers : ℕ) (status : ℕ) (failed : Bool) (old new : Done) : Type 0 where
  pub reads : new.read ≡ old.read
  pub count : ℕ
  pub calls : List DeviceCall
  pub all : List DeviceCall
  pub shown : OnlyReads calls all
  pub used : new.used ≡ with_all old.used count all
  pub ended : ℕ
  pub makes : Makes (build_steps blocks image) image ended status old new
      (λ file. IsFileOfRead buffers count from to file [] calls × (failed ≡ false → IsTold file.items old.sent new.sent))
  pub refused : failed ≡ false → 0 < ended → (d e : Blocks) → DidAs d e count [] calls
      → EndsUnbuilt buffers d from to (done_of (Some e) [] calls) ended old.sent new.sent

-- the numbers of a text that separates them with commas; none if there is no text
abbrev pub numbers_in : Option (List ℕ) → List ℕ
numbers_in None = []
numbers_in (Some text) = map (λ number. digits_value 10 (without_leading_plus number)) (slice_split (λ b. eqb b 44) text)

-- a text spells a number of 16 bits
abbrev pub IsShort : List ℕ → Type 0
IsShort text = IsNumeral 10 (without_leading_plus text) × (digits_value 10 (without_leading_plus text) < 65536)

-- the text, if there is one, separates such numbers with commas
abbrev pub AreNumbers : Option (List ℕ) → Type 0
AreNumbers None = Unit {0}
AreNumbers (Some text) = All IsShort (slice_split (λ b. eqb b 44) text)

-- a container's file, a file of blocks, and how screens lie in the container, as the command line has them
pub record Wanted : Type 0 where
  pub container : List ℕ
  pub blocks : List ℕ
  pub format : List ℕ
  pub offset : Option ℕ
  pub sector : Option ℕ
  pub skew : Option (List ℕ)

-- the layout is that of the format of this name, with the numbers that were given in place of the format's own
pub record IsWantedLayout (w : Wanted) (l : Layout) : Type 0 where
  pub format : Format
  pub named : name_of format ≡ w.format
  pub is : l ≡ changed (layout_of format) w.offset w.sector (numbers_in w.skew)

-- nothing can lie so, and it was printed why; the system was asked nothing
pub record IsMisfit (w : Wanted) (status : ℕ) (failed : Bool) (old new : Done) : Type 0 where
  pub format : Format
  pub named : name_of format ≡ w.format
  pub why : Cause
  pub is_why : IsWhy (misfit (changed (layout_of format) w.offset w.sector (numbers_in w.skew)).sector (changed (layout_of format) w.offset w.sector (numbers_in w.skew)).order) why
  pub printed : failed ≡ false → PrintsCause why status old.sent new.sent
  pub status_is : IsRefusal status failed
  pub unasked : new.asked ≡ old.asked
  pub unwritten : new.written ≡ old.written

-- the numbers of a skew can't be had: they aren't numbers of 16 bits, or memory ran out
abbrev pub RefusesSkew : (skew : Option (List ℕ)) → (status : ℕ) → (old new : List Answered) → Type 0
RefusesSkew skew status old new =
    (¬ AreNumbers skew × Refused (step deed.Take (codes "--skew" ∷ [])) status old new) ⊎ Refused (step deed.Allocate []) status old new

-- it can't be known how screens lie in the container: no format has this name, the skew isn't numbers, memory ran out, or nothing lies so
abbrev pub RefusesLayout : Wanted → (status : ℕ) → (failed : Bool) → (old new : Done) → Type 0
RefusesLayout w status failed old new =
    (((f : Format) → name_of f ≢ w.format) × Refuses (step deed.Take (w.format ∷ []) ∷ []) status old new)
    ⊎ (¬ AreNumbers w.skew × Refuses (step deed.Take (codes "--skew" ∷ []) ∷ []) status old new)
    ⊎ Refuses (step deed.Allocate [] ∷ []) status old new
    ⊎ IsMisfit w status failed old new

abbrev pub import_steps : Wanted → List Step
import_steps w = step deed.KeepAbsent (w.blocks ∷ []) ∷ step deed.Read (w.container ∷ []) ∷ []

abbrev pub RefusesImport : Wanted → (status : ℕ) → (failed : Bool) → (old new : Done) → Type 0
RefusesImport w status failed old new = RefusesLayout w status failed old new ⊎ Refuses (import_steps w) status old new

-- `import CONTAINER BLOCKS`
pub record Imports (w : Wanted) (cleans : Bool) (status : ℕ) (failed : Bool) (old new : Done) : Type 0 where
  pub layout : Layout
  pub is_wanted : IsWantedLayout w layout
  pub bytes : List ℕ
  pub reads : Reads w.container bytes old new
  pub ended : ℕ
  pub makes : Makes (import_steps w) w.blocks ended status old new (λ file. IsImported layout bytes cleans file.items)
  pub silent : ended ≡ 0 → new.sent ≡ old.sent
  pub refused : failed ≡ false → 0 < ended → PrintsUnread (unread layout bytes) ended old.sent new.sent

abbrev pub export_steps : Wanted → List Step
export_steps w =
    step deed.KeepApart (w.blocks ∷ w.container ∷ []) ∷ step deed.KeepBlocks (w.blocks ∷ []) ∷ step deed.KeepBlocks (w.container ∷ [])
    ∷ step deed.Read (w.blocks ∷ []) ∷ step deed.Hold (w.container ∷ []) ∷ step deed.Read (w.container ∷ []) ∷ []

abbrev pub RefusesExport : Wanted → (status : ℕ) → (failed : Bool) → (old new : Done) → Type 0
RefusesExport w status failed old new = RefusesLayout w status failed old new ⊎ Refuses (export_steps w) status old new

-- the blocks were read, and then the container, if it exists
abbrev pub ReadsOld : Wanted → (screens : List ℕ) → (before : Option (List ℕ)) → (old new : Done) → Type 0
ReadsOld w screens (Some before) old new = ReadsBoth w.blocks screens w.container before old new
ReadsOld w screens None old new = Reads w.blocks screens old new

-- the bytes of the container, or those of a new one for as many screens
abbrev pub container_for : Layout → (screens : List ℕ) → (before : Option (List ℕ)) → List ℕ
container_for layout screens before = unwrap_or before (new_container layout (length screens))

-- why there is no new container for so many bytes was printed: there are too many, or memory ran out
abbrev pub PrintsNoContainer : (bytes : ℕ) → (status : ℕ) → (old new : Option (List ℕ)) → Type 0
PrintsNoContainer bytes status old new = ((1024 * 65536 < bytes) × PrintsCause TooLarge status old new) ⊎ PrintsOutOfMemory status old new

-- these bytes are those of the container, old or new, with the screens written into it
abbrev pub IsExported : Layout → (screens : List ℕ) → (before : Option (List ℕ)) → (file : List ℕ) → Type 0
IsExported layout screens before file = written.IsWritten layout screens (container_for layout screens before) file

-- the bytes of a file that may not exist
abbrev pub items_of : Option (Vec ℕ Global) → Option (List ℕ)
items_of bytes = option_map (λ v. v.items) bytes

-- why the container isn't written was printed: it is too small for the screens, no new one can be so large, or memory ran out
abbrev pub PrintsUnexported : Layout → (screens : List ℕ) → (before : Option (List ℕ)) → (status : ℕ) → (old new : Option (List ℕ)) → Type 0
PrintsUnexported layout screens before status old new =
    PrintsUnread (unwritten layout screens (container_for layout screens before)) status old new
    ⊎ ((before ≡ None) × (1024 * 65536 < length screens) × PrintsCause TooLarge status old new)
    ⊎ ((before ≡ None) × PrintsOutOfMemory status old new)

-- `export BLOCKS CONTAINER`
pub record Exports (w : Wanted) (status : ℕ) (failed : Bool) (old new : Done) : Type 0 where
  pub layout : Layout
  pub is_wanted : IsWantedLayout w layout
  pub screens : List ℕ
  pub before : Option (List ℕ)
  pub reads : ReadsOld w screens before old new
  pub ended : ℕ
  pub makes : Makes (export_steps w) w.container ended status old new (λ file. IsExported layout screens before file.items)
  pub silent : ended ≡ 0 → new.sent ≡ old.sent
  pub refused : failed ≡ false → 0 < ended → PrintsUnexported layout screens before ended old.sent new.sent

abbrev pub wanted_of : Disk → Wanted
wanted_of disk = record {
  container = disk.container.now;
  blocks = disk.blocks.now;
  format = disk.format.now;
  offset = disk.offset;
  sector = disk.sector;
  skew = option_map (λ text. text.now) disk.skew;
}
