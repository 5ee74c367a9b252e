-- What calls answer and leave.
use Rattle.std.specs.Prelude.{◌≡◌, ◌≢◌, ◌≤◌, ◌-◌, ◌<◌, ◌==◌, ℕ, List, [], ◌∷◌, length, take, drop, None, Some, IsSome, true, false}
use Rattle.dictionary.specs.Header.{compilation_address}
use Rattle.dictionary.specs.Search.{Found, Nowhere, TooLong, sought}
use Rattle.machine_parts.specs.declared.parts.Span.{Span}
use Rattle.machine.specs.Answer.{Reply, answer_of, asked_by, asked_page, is_answer}
use Rattle.image_loader.specs.Files.{IsWritten}
use Rattle.machine.specs.Entering.{can_save, entered, saved, with_parts}
use Rattle.machine.specs.State.{State}
use Rattle.machine.specs.Tick.{Runs}
use Rattle.forth83_c.specs.declared.record.Forth83.{Forth83}
use Rattle.forth83_c.specs.declared.record.Forth83End.{Forth83End}
use Rattle.forth83_c.specs.declared.status.Status.{Status}
use Rattle.forth83_c.specs.declared.status.Status.TheVariants as status
use Rattle.forth83_c.specs.declared.stop.Stop.{Stop}
use Rattle.forth83_c.specs.declared.stop.Stop.TheVariants as stop
use Rattle.forth83_c.specs.Driven.{IsDriven, HasStopped, counted, told}
use Rattle.forth83_c.specs.Kept.{IsKept, IsRecord, SameBeside, SameCall}

-- the numbers of the header
abbrev pub code_of : Status → ℕ
code_of status.Done = 0
code_of status.NoMachine = 1
code_of status.OutOfMemory = 2
code_of status.ShortRoom = 3
code_of status.Truncated = 4
code_of status.TrailingBytes = 5
code_of status.BadMagic = 6
code_of status.BadVersion = 7
code_of status.BadBuffers = 8
code_of status.BadSize = 9
code_of status.Halted = 10
code_of status.Waiting = 11
code_of status.NotAsked = 12
code_of status.BadPage = 13
code_of status.Stack = 14
code_of status.NotFound = 15
code_of status.ChainTooLong = 16
code_of status.NotColon = 17
code_of status.NotStructured = 18
code_of status.Nameless = 19
code_of status.Shadowed = 20
code_of status.BadText = 21
code_of status.LongReply = 22

abbrev pub stop_code : Stop → ℕ
stop_code stop.Halted = 0
stop_code stop.Limit = 1
stop_code stop.Room = 2
stop_code stop.Typed = 3
stop_code stop.Block = 4
stop_code (stop.Span span) = 5
stop_code (stop.Line span) = 6
stop_code stop.Returned = 7

-- the bytes of memory that such a stop leaves to the host; none of other stops
abbrev pub span_of : Stop → Span
span_of (stop.Span span) = span
span_of (stop.Line span) = span
span_of _ = record { at = 0; len = 0 }

-- by this number of the header no machine is reported exactly if the record is none
abbrev pub TellsMachine : Forth83 → (code : ℕ) → Type 0
TellsMachine k code = (code ≡ 1 → ¬ IsRecord k) × (code ≢ 1 → IsRecord k)

-- why a call does nothing to a state, by the status that it answers then: the answer isn't taken
abbrev pub WhyNotAnswered : Reply → State → Status → Type 0
WhyNotAnswered reply s status.Halted = IsSome s.halt
WhyNotAnswered reply s status.NotAsked = (s.halt ≡ None) × (is_answer (asked_by s.wait) reply ≡ false)
WhyNotAnswered reply s _ = ⊥

-- no word is entered
abbrev pub WhyNotEntered : State → Status → Type 0
WhyNotEntered s status.Halted = IsSome s.halt
WhyNotEntered s status.Waiting = (s.halt ≡ None) × IsSome s.wait
WhyNotEntered s _ = ⊥

-- no page is asked to be kept
abbrev pub WhyNoPage : State → Status → Type 0
WhyNoPage s status.NotAsked = asked_page s ≡ None
WhyNoPage s _ = ⊥

-- the stack is full
abbrev pub WhyNotPushed : State → Status → Type 0
WhyNotPushed s status.Stack = 256 ≤ length s.parts.values
WhyNotPushed s _ = ⊥

-- it is empty
abbrev pub WhyNotPopped : State → Status → Type 0
WhyNotPopped s status.Stack = s.parts.values ≡ []
WhyNotPopped s _ = ⊥

-- HERE is no size of an image, or its file has more bytes than there is room for
abbrev pub WhyNotSaved : (entry room : ℕ) → State → Status → Type 0
WhyNotSaved entry room s status.BadSize = can_save s.parts ≡ false
WhyNotSaved entry room s status.ShortRoom = (bytes : List ℕ) × IsWritten bytes (saved s.parts entry) × (room < length bytes)
WhyNotSaved entry room s _ = ⊥

-- FIND's search of the name comes to no header, or to a chain that is too long
abbrev pub WhyNotFound : (name : List ℕ) → State → Status → Type 0
WhyNotFound name s status.NotFound = sought s.parts.memory name ≡ Nowhere
WhyNotFound name s status.ChainTooLong = sought s.parts.memory name ≡ TooLong
WhyNotFound name s _ = ⊥

-- what a status says of the record that a call was lent: it is no machine's; or it is one, and the call was done; or it keeps a state
-- to which the call does nothing
abbrev pub Tells : (State → Status → Type 0) → Forth83 → Status → Type 0
Tells Why k status.NoMachine = ¬ IsRecord k
Tells Why k status.Done = IsRecord k
Tells Why k other = (s : State) × IsKept k s × Why s other

-- the same of the status' number
abbrev pub TellsByCode : (State → Status → Type 0) → Forth83 → (code : ℕ) → Type 0
TellsByCode Why k code = (status : Status) × (code ≡ code_of status) × Tells Why k status

-- no fault was met, and no word is called
pub record HasBegun (kept : Forth83) : Type 0 where
  pub faults : kept.faults ≡ record { count = 0; last = 0; ip = 0 }
  pub no_call : kept.is_called ≡ 0

-- the machine that the record kept was driven to that which it keeps now, by the typed bytes and for at most `limit` ticks;
-- `end` says how many of them were read, how many bytes shown, how many ticks left, why it ended there, and which bytes of memory
-- are shown then; the record counts its faults
pub record HasRun (old new : Forth83) (typed shown : List ℕ) (limit : ℕ) (end : Forth83End) : Type 0 where
  pub before : State
  pub after : State
  pub was_kept : IsKept old before
  pub is_kept : IsKept new after
  pub stop : Stop
  pub driven : IsDriven (old.is_called == 1) old.faults before typed limit new.faults after (drop end.read typed) (told stop after.parts.memory (take end.shown shown)) end.left
  pub call : SameCall old new
  pub stopped : HasStopped (old.is_called == 1) stop after (drop end.read typed) end.left (length shown) (length shown - end.shown)
  pub why : end.stop ≡ stop_code stop
  pub at : end.at ≡ (span_of stop).at
  pub len : end.len ≡ (span_of stop).len
  pub read : end.read ≤ length typed
  pub fits : end.shown ≤ length shown
  pub fewer : end.left ≤ limit

-- the machine that the record kept was given an answer that it had asked for, and keeps what that comes to
pub record HasAnswered (old new : Forth83) (reply : Reply) : Type 0 where
  pub before : State
  pub after : State
  pub was_kept : IsKept old before
  pub is_kept : IsKept new after
  pub goes : before.halt ≡ None
  pub fits : is_answer (asked_by before.wait) reply ≡ true
  pub is : after ≡ (answer_of before reply).0
  pub faults : new.faults ≡ counted before.parts.ip (answer_of before reply).1.event old.faults
  pub call : SameCall old new

-- the machine that the record kept ran, and keeps what it is where this word is entered
pub record HasEntered (old new : Forth83) (word : ℕ) : Type 0 where
  pub before : State
  pub was_kept : IsKept old before
  pub runs : Runs before
  pub is_kept : IsKept new (with_parts before (entered before.parts word))
  pub beside : SameBeside old new

-- the machine that the record keeps asks that these bytes be kept
pub record AsksPage (kept : Forth83) (page : List ℕ) : Type 0 where
  pub state : State
  pub is_kept : IsKept kept state
  pub asks : asked_page state ≡ Some page

-- of whatever machine the record kept: it keeps the same with x on top of the data stack
abbrev pub HasPushed : (old new : Forth83) (x : ℕ) → Type 0
HasPushed old new x = (s : State) → IsKept old s → IsKept new (with_parts s (record s.parts { values = x ∷ s.parts.values }))

-- x was on top of the data stack, and the record keeps the same without it
pub record Popped (new : Forth83) (s : State) (x : ℕ) : Type 0 where
  pub rest : List ℕ
  pub was : s.parts.values ≡ x ∷ rest
  pub is_kept : IsKept new (with_parts s (record s.parts { values = rest }))

abbrev pub HasPopped : (old new : Forth83) (x : ℕ) → Type 0
HasPopped old new x = (s : State) → IsKept old s → Popped new s x

-- these bytes are the file of the image that the kept machine is saved as, which starts with the word at entry
pub record HasSaved (kept : Forth83) (entry : ℕ) (bytes : List ℕ) : Type 0 where
  pub state : State
  pub is_kept : IsKept kept state
  pub fits : can_save state.parts ≡ true
  pub written : IsWritten bytes (saved state.parts entry)

-- FIND's search of the name, in the memory of the machine that the record keeps, comes to a header; this is its compilation
-- address
pub record HasFound (kept : Forth83) (name : List ℕ) (word : ℕ) : Type 0 where
  pub state : State
  pub is_kept : IsKept kept state
  pub header : ℕ
  pub found : sought state.parts.memory name ≡ Found header
  pub is : word ≡ compilation_address state.parts.memory header
