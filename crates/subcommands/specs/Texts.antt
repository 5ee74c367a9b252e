-- Screens printed as text, and texts written into a block file.
use Rattle.std.specs.Prelude.{◌≡◌, ◌⊎◌, ℕ, ◌+◌, ◌-◌, List, ◌++◌, flat_map, Option, Result, Ok, Err, codes, decimal}
use Rattle.std.specs.Io.KnownBytes.{Appends}
use Rattle.block_buffers.specs.DeviceCalls.{DeviceCall}
use Rattle.block_buffers.specs.Disks.{Disk}
use Rattle.device_text.specs.Pages.{IsTextOfRead, pages}
use Rattle.device_text.specs.declared.pages.PageCause.{PageCause}
use Rattle.device_text.specs.declared.pages.PageCause.TheVariants as page
use Rattle.device_text.specs.declared.pages.Unprinted.{Unprinted}
use Rattle.screen_text.specs.Blocks.{with_screens}
use Rattle.screen_text.specs.Headings.{listed_headings}
use Rattle.screen_text.specs.Reading.{State, whole}
use Rattle.screen_text.specs.Screens.{screens_of}
use Rattle.screen_text.specs.declared.cause.Cause.{Cause}
use Rattle.screen_text.specs.declared.cause.Cause.TheVariants as text
use Rattle.screen_text.specs.declared.cause.TextFault.{TextFault}
use Rattle.subcommands.specs.Lines.{Prints, PrintsOutOfMemory, as_line}

abbrev pub page_cause : PageCause → List ℕ
page_cause page.Device = codes "Device"
page_cause page.OutOfMemory = codes "out of memory"

abbrev pub text_cause : Cause → List ℕ
text_cause (text.BadByte byte) = codes "BadByte " ++ decimal byte
text_cause text.BadEscape = codes "BadEscape"
text_cause text.LongLine = codes "LongLine"
text_cause text.FullScreen = codes "FullScreen"
text_cause text.BadHeading = codes "BadHeading"
text_cause text.LateHeading = codes "LateHeading"
text_cause text.NamedTwice = codes "NamedTwice"
text_cause text.NoScreen = codes "NoScreen"
text_cause text.OutOfMemory = codes "out of memory"

-- `screen S line L: CAUSE`
abbrev pub screen_line : (screen place : ℕ) → List ℕ → List ℕ
screen_line screen place cause = codes "screen " ++ (decimal screen ++ (codes " line " ++ (decimal place ++ (codes ": " ++ as_line cause))))

-- the text was printed, or why there is none
abbrev pub PrintsText : Result (List ℕ) Unprinted → (status : ℕ) → (old new : Option (List ℕ)) → Type 0
PrintsText (Ok text) status old new = Prints text 0 status old new
PrintsText (Err why) status old new = Prints (screen_line why.screen why.line (page_cause why.cause)) 1 status old new

-- what `text` prints of the screens from..to, or that memory ran out
abbrev pub EndsText : Disk → (from to : ℕ) → (status : ℕ) → (old new : Option (List ℕ)) → Type 0
EndsText d from to status old new = PrintsText (pages d from (to + 1 - from)) status old new ⊎ PrintsOutOfMemory status old new

-- n screens from a number on were read, and just the text of their pages was printed
pub record HasPrinted (from n count : ℕ) (calls calls' : List DeviceCall) (old new : Option (List ℕ)) : Type 0 where
  pub text : List ℕ
  pub is : IsTextOfRead from n count text calls calls'
  pub printed : Appends old new text

-- the block file with the screens that were read of a text
abbrev pub HasScreens : Result State TextFault → (old new : List ℕ) → Type 0
HasScreens (Ok s) old new = new ≡ with_screens old (screens_of s.numbers (whole s))
HasScreens (Err fault) old new = ⊥

-- the bytes of a block file
unfoldable pub file_of : (blocks : List (List ℕ)) → List ℕ
file_of blocks = flat_map (λ b. b) blocks

-- `line L: CAUSE`
abbrev pub numbered_line : (place : ℕ) → List ℕ → List ℕ
numbered_line place cause = codes "line " ++ (decimal place ++ (codes ": " ++ as_line cause))

-- why a text isn't written was printed
abbrev pub PrintsUnwritten : Result State TextFault → (status : ℕ) → (old new : Option (List ℕ)) → Type 0
PrintsUnwritten (Ok s) status old new = PrintsOutOfMemory status old new
PrintsUnwritten (Err fault) status old new = Prints (numbered_line fault.line (text_cause fault.cause)) 1 status old new

-- the same, or that memory ran out
abbrev pub EndsUnwritten : Result State TextFault → (status : ℕ) → (old new : Option (List ℕ)) → Type 0
EndsUnwritten reading status old new = PrintsUnwritten reading status old new ⊎ PrintsOutOfMemory status old new

-- the headings of a text were printed, or that memory ran out
abbrev pub EndsHeadings : (text : List ℕ) → (status : ℕ) → (old new : Option (List ℕ)) → Type 0
EndsHeadings text status old new = Prints (listed_headings text) 0 status old new ⊎ PrintsOutOfMemory status old new
