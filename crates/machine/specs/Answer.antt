-- An answer to the request that waits.
use Rattle.std.specs.Prelude.{◌≡◌, IsSome, IsOkAnd, IsErrOf, Result, ℕ, ◌<◌, All, List, ◌∷◌, Option, Some, None, Bool, true, false, not, ◌&&◌, ◌||◌, ◌==◌, length, nat_lt, nat_le, slice_index, drop, if◌then◌else◌}
use Rattle.std.specs.List.{list_all}
use Rattle.block_buffers.specs.Entries.{address_of, victim, assigned, unmarked, slot_of}
use Rattle.memory.specs.Bytes.{put_cell, put_bytes, page, with_page}
use Rattle.memory.specs.declared.system.TheConstants.{SPAN}
use Rattle.machine_parts.specs.Whole.{Whole}
use Rattle.machine_parts.specs.declared.faults.TheConstants.{DATA_UNDERFLOW, DATA_OVERFLOW, READ_FAILED, WRITE_FAILED}
use Rattle.machine_parts.specs.declared.parts.Request.{Request}
use Rattle.machine_parts.specs.declared.parts.Request.TheVariants as request
use Rattle.machine.specs.declared.act.Act.{Act}
use Rattle.machine.specs.declared.act.Answer.{Answer}
use Rattle.machine.specs.declared.act.Answer.TheVariants as answer
use Rattle.machine.specs.declared.act.Cause.{Cause}
use Rattle.machine.specs.declared.act.Cause.TheVariants as cause
use Rattle.machine.specs.declared.act.Event.TheVariants.{Went, Halt}
use Rattle.machine.specs.declared.act.Refused.{Refused}
use Rattle.machine.specs.declared.act.Refused.TheVariants.{Halted as HaltedRefusal, NotAsked}
use Rattle.machine.specs.declared.act.Shown.{Shown}
use Rattle.machine.specs.declared.act.Shown.TheVariants.{Nothing, Span as SpanShown, Line as LineShown}
use Rattle.machine.specs.State.{State}
use Rattle.machine.specs.Tick.{running, halted, by_fault, quiet}

-- an answer, with the bytes that it lends
pub data Reply : Type 0 where
  Key : ℕ → Reply
  Line : List ℕ → Bool → Reply
  InputEnd : Reply
  InputFault : Reply
  ReadOk : List ℕ → Reply
  ReadFault : Reply
  WriteOk : Reply
  WriteFault : Reply

abbrev pub seen : Answer → Reply
seen (answer.Key byte) = Key byte
seen (answer.Line bytes returned) = Line bytes.now returned
seen answer.InputEnd = InputEnd
seen answer.InputFault = InputFault
seen (answer.ReadOk page) = ReadOk page.now
seen answer.ReadFault = ReadFault
seen answer.WriteOk = WriteOk
seen answer.WriteFault = WriteFault

-- what an `Answer` can spell: bytes are below 256, and a page has 1,024 of them
abbrev pub IsSpelled : Reply → Type 0
IsSpelled (Key c) = c < 256
IsSpelled (Line bytes returned) = All (λ b. b < 256) bytes
IsSpelled (ReadOk page) = (length page ≡ 1024) × All (λ b. b < 256) page
IsSpelled _ = Unit {0}

-- a byte 10 or 13 ends a line
abbrev pub is_return : ℕ → Bool
is_return c = (c == 10) || (c == 13)

abbrev pub is_typed : ℕ → Bool
is_typed c = not (is_return c)

-- a line of at most n bytes: if a return ended it, it has fewer; else it has at least one
unfoldable pub is_line : ℕ → List ℕ → Bool → Bool
is_line n bytes returned =
    list_all is_typed bytes
    && (if returned then nat_lt (length bytes) n else nat_lt 0 (length bytes) && nat_le (length bytes) n)

-- which answers fit a request
abbrev pub fits_request : Request → Reply → Bool
fits_request request.Key (Key c) = true
fits_request request.Key InputEnd = true
fits_request request.Key InputFault = true
fits_request (request.Line n) (Line bytes returned) = is_line n bytes returned
fits_request (request.Line n) InputEnd = true
fits_request (request.Line n) InputFault = true
fits_request (request.Read u) (ReadOk page) = true
fits_request (request.Read u) ReadFault = true
fits_request (request.Write u) WriteOk = true
fits_request (request.Write u) WriteFault = true
fits_request _ _ = false

-- the request that waits, without its token
abbrev pub asked_by : Option (Request × ℕ) → Option Request
asked_by None = None
asked_by (Some p) = Some p.0

abbrev pub is_answer : Option Request → Reply → Bool
is_answer None reply = false
is_answer (Some r) reply = fits_request r reply

-- a key: its byte is pushed
unfoldable pub key_answered : Whole → ℕ → State × Act
key_answered s c =
    if nat_lt 256 (length (c ∷ s.values)) then by_fault s Nothing DATA_OVERFLOW
    else (running (record s { values = c ∷ s.values }), quiet)

-- what a line shows of the n bytes at a: they, and a blank if a return ended it
abbrev pub line_shown : ℕ → ℕ → Bool → Shown
line_shown a n returned = if returned then LineShown (record { at = a; len = n }) else SpanShown (record { at = a; len = n })

-- a line for EXPECT ( a u -- ): its count goes to SPAN, then its bytes to a
unfoldable pub line_answered : Whole → List ℕ → Bool → State × Act
line_answered s bytes returned =
    if nat_lt (length s.values) 2 then by_fault s Nothing DATA_UNDERFLOW
    else (let a = slice_index s.values 1 in (
      running (record s { values = drop 2 s.values; memory = put_bytes (put_cell s.memory SPAN (length bytes)) a bytes }),
      record { shown = line_shown a (length bytes) returned; event = Went },
    ))

-- nothing more is typed, or can be read: the machine halts
abbrev pub input_stopped : Whole → Cause → State × Act
input_stopped s cause = (halted s cause, record { shown = Nothing; event = Halt cause })

-- a block's bytes: they go to the victim's buffer, which is assigned to the block and referenced; the token comes again
unfoldable pub read_answered : Whole → ℕ → ℕ → List ℕ → State × Act
read_answered s u w page = (
  running (record s {
    memory = with_page s.memory (address_of s.buffers (victim s.buffers).slot) page;
    buffers = assigned u s.buffers;
    pending = Some w;
  }),
  quiet,
)

-- a block was written: it is no longer marked as updated; the token comes again
unfoldable pub write_answered : Whole → ℕ → ℕ → State × Act
write_answered s u w =
    (running (record s { buffers = unmarked u s.buffers; pending = Some w }), quiet)

-- the block that a request is about
abbrev pub block_of : Request → ℕ
block_of (request.Read u) = u
block_of (request.Write u) = u
block_of _ = 0

-- what an answer comes to that fits the request of a token
unfoldable pub answered : Whole → Request × ℕ → Reply → State × Act
answered s p (Key c) = key_answered s c
answered s p (Line bytes returned) = line_answered s bytes returned
answered s p InputEnd = input_stopped s cause.InputEnded
answered s p InputFault = input_stopped s cause.InputFault
answered s p (ReadOk page) = read_answered s (block_of p.0) p.1 page
answered s p ReadFault = by_fault s Nothing READ_FAILED
answered s p WriteOk = write_answered s (block_of p.0) p.1
answered s p WriteFault = by_fault s Nothing WRITE_FAILED

-- what an answer comes to that fits the request of this state
unfoldable pub answer_of : State → Reply → State × Act
answer_of s reply = elim s.wait [ Some p ↦ answered s.parts p reply | None ↦ (s, quiet) ]

-- an answer that fits is taken while the machine isn't halted
abbrev pub TakesFit : State → State → Reply → Result Act Refused → Type 0
TakesFit old new reply result =
    old.halt ≡ None → is_answer (asked_by old.wait) reply ≡ true → IsOkAnd result (λ act. (new, act) ≡ answer_of old reply)

-- a halted machine refuses each answer, and another one each that doesn't fit
abbrev pub RefusesHalted : State → Result Act Refused → Type 0
RefusesHalted old result = IsSome old.halt → IsErrOf result HaltedRefusal

abbrev pub RefusesUnfit : State → Reply → Result Act Refused → Type 0
RefusesUnfit old reply result = old.halt ≡ None → is_answer (asked_by old.wait) reply ≡ false → IsErrOf result NotAsked

-- the bytes of block u's buffer
abbrev pub buffered : Whole → ℕ → List ℕ
buffered s u = page s.memory (address_of s.buffers (slot_of s.buffers u))

-- the bytes of the block that a Write asks to keep
abbrev pub page_asked : Whole → Request → Option (List ℕ)
page_asked s (request.Write u) = Some (buffered s u)
page_asked s _ = None

abbrev pub asked_page : State → Option (List ℕ)
asked_page s = elim (asked_by s.wait) [ Some r ↦ page_asked s.parts r | None ↦ None ]
