-- Screens as text, both ways: why a call does nothing.
use Rattle.std.specs.Prelude.{◌≡◌, ◌≢◌, ◌<◌, ◌+◌, ◌*◌, ◌⊎◌, ℕ, List, length, Result, Ok, Err}
use Rattle.screen_text.specs.Reading.{State}
use Rattle.screen_text.specs.Screens.{screen_text}
use Rattle.screen_text.specs.declared.cause.Cause.{Cause}
use Rattle.screen_text.specs.declared.cause.Cause.TheVariants as c
use Rattle.screen_text.specs.declared.cause.TextFault.{TextFault}
use Rattle.forth83_c.specs.declared.screens.NoScreens.{NoScreens}
use Rattle.forth83_c.specs.declared.screens.NoScreens.TheVariants as no
use Rattle.forth83_c.specs.declared.status.Status.{Status}
use Rattle.forth83_c.specs.declared.status.Status.TheVariants as status
use Rattle.forth83_c.specs.Called.{code_of}

-- why the text of a screen is not put into a room of so many bytes, by the status; memory may always run out
abbrev pub WhyNoText : (number : ℕ) → (page : List ℕ) → (room : ℕ) → Status → Type 0
WhyNoText number page room status.Done = length page ≡ 1024
WhyNoText number page room status.BadPage = length page ≢ 1024
WhyNoText number page room status.ShortRoom = (length page ≡ 1024) × (room < length (screen_text number page))
WhyNoText number page room status.OutOfMemory = length page ≡ 1024
WhyNoText number page room _ = ⊥

-- the numbers of causes in the header
abbrev pub cause_number : Cause → ℕ
cause_number c.OutOfMemory = 0
cause_number c.BadEscape = 1
cause_number c.LongLine = 2
cause_number c.FullScreen = 3
cause_number c.BadHeading = 4
cause_number c.LateHeading = 5
cause_number c.NamedTwice = 6
cause_number c.NoScreen = 7
cause_number (c.BadByte byte) = 256 + byte

-- why the screens of a text are not put into rooms for so many numbers and for so many bytes; memory may always run out
abbrev pub WhyNoScreens : Result State TextFault → (numbers pages : ℕ) → NoScreens → Type 0
WhyNoScreens (Ok s) numbers pages no.ShortRoom = (numbers < length s.numbers) ⊎ (pages < 1024 * length s.numbers)
WhyNoScreens (Err fault) numbers pages (no.Refused told) = told ≡ fault
WhyNoScreens r numbers pages no.OutOfMemory = Unit {0}
WhyNoScreens r numbers pages _ = ⊥

-- the same by the number in the header; and of a text that is refused the line at fault and the number of the cause
abbrev pub HasNoText : (number : ℕ) → (page : List ℕ) → (room code : ℕ) → Type 0
HasNoText number page room code = (status : Status) × (code ≡ code_of status) × WhyNoText number page room status

abbrev pub no_code : NoScreens → ℕ
no_code no.OutOfMemory = 2
no_code no.ShortRoom = 3
no_code (no.Refused fault) = 23

abbrev pub IsTold : NoScreens → (line cause : ℕ) → Type 0
IsTold (no.Refused fault) line cause = (line ≡ fault.line) × (cause ≡ cause_number fault.cause)
IsTold _ line cause = Unit {0}

pub record HasNoScreens (r : Result State TextFault) (numbers pages line cause code : ℕ) : Type 0 where
  pub no : NoScreens
  pub why : WhyNoScreens r numbers pages no
  pub code_is : code ≡ no_code no
  pub is_told : IsTold no line cause
