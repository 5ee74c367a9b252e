-- What calls answer that look at a machine: all of it, its memory too, stays as it was.
use Rattle.std.specs.Prelude.{◌≡◌, ◌<◌, ℕ, List, true, false, length, Ok, Err, Vec}
use Rattle.std.specs.declared.alloc.Global.{Global}
use Rattle.debug_tracer.specs.Debugged.{debugged}
use Rattle.debug_tracer.specs.declared.fault.DebugFault.TheVariants as df
use Rattle.debug_tracer.specs.Lines.{line}
use Rattle.dictionary.specs.Order.{headers, is_beyond_limit}
use Rattle.dictionary.specs.Search.{sought}
use Rattle.machine.specs.State.{State}
use Rattle.see.specs.Seeing.{IsSeen}
use Rattle.see.specs.View.{viewed}
use Rattle.see.specs.declared.refusal.SeeRefused.{SeeRefused}
use Rattle.see.specs.declared.refusal.SeeRefused.TheVariants as sr
use Rattle.see.specs.declared.refusal.ViewRefused.TheVariants as vr
use Rattle.forth83_c.specs.declared.record.Forth83.{Forth83}
use Rattle.forth83_c.specs.declared.status.Status.{Status}
use Rattle.forth83_c.specs.declared.status.Status.TheVariants as status
use Rattle.forth83_c.specs.Kept.{IsKept}

-- this is the view cell of the word that the name means, in the memory of the machine that the record keeps
pub record HasViewed (kept : Forth83) (name : List ℕ) (block : ℕ) : Type 0 where
  pub state : State
  pub is_kept : IsKept kept state
  pub is : viewed state.parts.memory (sought state.parts.memory name) ≡ Ok block

-- it does not exist, since no word has the name, or a chain is too long
abbrev pub WhyNotViewed : (name : List ℕ) → State → Status → Type 0
WhyNotViewed name s status.NotFound = viewed s.parts.memory (sought s.parts.memory name) ≡ Err vr.NotFound
WhyNotViewed name s status.ChainTooLong = viewed s.parts.memory (sought s.parts.memory name) ≡ Err vr.ChainTooLong
WhyNotViewed name s _ = ⊥

-- these are the link fields of all its headers
pub record HasListed (kept : Forth83) (list : List ℕ) : Type 0 where
  pub state : State
  pub is_kept : IsKept kept state
  pub within : is_beyond_limit state.parts.memory ≡ false
  pub is : list ≡ headers state.parts.memory

-- memory has too many headers, or more than the room has cells; memory for the list may always run out
abbrev pub WhyNotListed : (room : ℕ) → State → Status → Type 0
WhyNotListed room s status.ChainTooLong = is_beyond_limit s.parts.memory ≡ true
WhyNotListed room s status.ShortRoom = (is_beyond_limit s.parts.memory ≡ false) × (room < length (headers s.parts.memory))
WhyNotListed room s status.OutOfMemory = is_beyond_limit s.parts.memory ≡ false
WhyNotListed room s _ = ⊥

-- here the thread is of the colon word that the name means, as DEBUG takes it
pub record HasExtent (kept : Forth83) (name : List ℕ) (from end : ℕ) : Type 0 where
  pub state : State
  pub is_kept : IsKept kept state
  pub is : debugged state.parts.memory name ≡ Ok (record { from = from; end = end })

-- none exists; memory for the list of headers may always run out
abbrev pub WhyNoExtent : (name : List ℕ) → State → Status → Type 0
WhyNoExtent name s status.NotFound = debugged s.parts.memory name ≡ Err df.NotFound
WhyNoExtent name s status.ChainTooLong = debugged s.parts.memory name ≡ Err df.ChainTooLong
WhyNoExtent name s status.NotColon = debugged s.parts.memory name ≡ Err df.NotColon
WhyNoExtent name s status.OutOfMemory = Unit {0}
WhyNoExtent name s _ = ⊥

-- this is SEE's text of the colon word that the name means
pub record HasSeen (kept : Forth83) (name text : List ℕ) : Type 0 where
  pub state : State
  pub is_kept : IsKept kept state
  pub seen : Vec ℕ Global
  pub is_seen : IsSeen state.parts.memory name (Ok seen)
  pub is : text ≡ seen.items

-- the status for a refusal of SEE
abbrev pub by_refusal : SeeRefused → Status
by_refusal sr.NotFound = status.NotFound
by_refusal sr.ChainTooLong = status.ChainTooLong
by_refusal sr.NotColon = status.NotColon
by_refusal sr.NotStructured = status.NotStructured
by_refusal (sr.Nameless w) = status.Nameless
by_refusal sr.Shadowed = status.Shadowed
by_refusal sr.BadText = status.BadText
by_refusal sr.OutOfMemory = status.OutOfMemory

-- SEE refuses the word, or its text has more bytes than the room has
abbrev pub WhyNotSeen : (name : List ℕ) (room : ℕ) → State → Status → Type 0
WhyNotSeen name room s status.ShortRoom = (seen : Vec ℕ Global) × IsSeen s.parts.memory name (Ok seen) × (room < length seen.items)
WhyNotSeen name room s other = (refused : SeeRefused) × (other ≡ by_refusal refused) × IsSeen s.parts.memory name (Err refused)

-- this is DEBUG's line of the tick that comes next, with the names of memory as it is
pub record HasTraced (kept : Forth83) (text : List ℕ) : Type 0 where
  pub state : State
  pub is_kept : IsKept kept state
  pub within : is_beyond_limit state.parts.memory ≡ false
  pub is : text ≡ line state.parts.memory (headers state.parts.memory) state.parts

-- memory has too many headers, or the line has more bytes than the room has; memory for it may always run out
abbrev pub WhyNotTraced : (room : ℕ) → State → Status → Type 0
WhyNotTraced room s status.ChainTooLong = is_beyond_limit s.parts.memory ≡ true
WhyNotTraced room s status.ShortRoom =
    (is_beyond_limit s.parts.memory ≡ false) × (room < length (line s.parts.memory (headers s.parts.memory) s.parts))
WhyNotTraced room s status.OutOfMemory = is_beyond_limit s.parts.memory ≡ false
WhyNotTraced room s _ = ⊥

-- the report has more bytes than the room has, or memory for it ran out; no definition says what the report is
abbrev pub WhyNotSurveyed : State → Status → Type 0
WhyNotSurveyed s status.ShortRoom = Unit {0}
WhyNotSurveyed s status.OutOfMemory = Unit {0}
WhyNotSurveyed s _ = ⊥
