-- Replies, as frames.
use Rattle.std.specs.Prelude.{ℕ, ◌/◌, ◌%◌, ◌+◌, List, [], ◌∷◌, ◌++◌, Option, Some, None, length, nat_le, Result, Ok, Err, Vec, if◌then◌else◌}
use Rattle.std.specs.List.{flat_map}
use Rattle.std.specs.declared.alloc.Global.{Global}
use Rattle.dictionary.specs.Search.{Sought, Found, Nowhere, TooLong}
use Rattle.cells.specs.Cell.{wrap}
use Rattle.debug_tracer.specs.Lines.{line}
use Rattle.debug_tracer.specs.declared.fault.DebugFault.{DebugFault}
use Rattle.debug_tracer.specs.declared.fault.DebugFault.TheVariants as df
use Rattle.dictionary.specs.Header.{compilation_address, name_of, view_of}
use Rattle.dictionary.specs.Order.{headers, is_beyond_limit}
use Rattle.image_loader.specs.Files.{file}
use Rattle.machine.specs.declared.extent.Extent.{Extent}
use Rattle.see.specs.declared.refusal.SeeRefused.{SeeRefused}
use Rattle.see.specs.declared.refusal.SeeRefused.TheVariants as sr
use Rattle.see.specs.declared.refusal.ViewRefused.{ViewRefused}
use Rattle.see.specs.declared.refusal.ViewRefused.TheVariants as vr
use Rattle.memory.specs.Bytes.{byte, bytes, cell, cell_bytes}
use Rattle.machine_parts.specs.Whole.{Whole}
use Rattle.machine_parts.specs.declared.parts.Request.{Request}
use Rattle.machine_parts.specs.declared.parts.Request.TheVariants as request
use Rattle.machine.specs.Entering.{can_save, saved}
use Rattle.machine.specs.declared.act.Cause.{Cause}
use Rattle.machine.specs.declared.act.Cause.TheVariants as cause
use Rattle.machine.specs.declared.act.Event.{Event}
use Rattle.machine.specs.declared.act.Event.TheVariants as event
use Rattle.machine.specs.State.{State}
use Rattle.machine.specs.Answer.{asked_by}
use Rattle.serving.specs.Frames.{frame, long_reply}
use Rattle.serving.specs.Registers.{cells_bytes, register_cells, state_cells}
use Rattle.serving.specs.declared.requests.Listing.{Listing}
use Rattle.serving.specs.declared.requests.Listing.TheVariants as listing
use Rattle.serving.specs.declared.text.TheConstants.{TEXT_ROOM}
use Rattle.serving.specs.declared.replies.Standing.{Standing}

abbrev pub standing : ℕ → ℕ → Standing
standing letter number = record { letter = letter; number = number }

-- what a machine asks: k a key, l a line, r and w a block
abbrev pub by_request : Request → Standing
by_request request.Key = standing 107 0
by_request (request.Line n) = standing 108 n
by_request (request.Read u) = standing 114 u
by_request (request.Write u) = standing 119 u

-- why it halted: b by BYE, x at the end of input, y as input failed, h by a fault
abbrev pub by_cause : Cause → Standing
by_cause cause.Bye = standing 98 0
by_cause cause.InputEnded = standing 120 0
by_cause cause.InputFault = standing 121 0
by_cause (cause.Fault f) = standing 104 f

abbrev pub by_halt : Option Cause → Option Request → Standing
by_halt (Some c) asked = by_cause c
by_halt None (Some r) = by_request r
by_halt None None = standing 45 0

-- what a machine does after an act of this event: f a fault that its fault thread handles; otherwise why it halted, what it asks, or -
-- if it runs
abbrev pub standing_after : State → Event → Standing
standing_after s (event.Fault f) = standing 102 f
standing_after s _ = by_halt s.halt (asked_by s.wait)

-- a number in four bytes, the low one first
abbrev pub long_bytes : ℕ → List ℕ
long_bytes n = n % 256 ∷ n / 256 % 256 ∷ n / 65536 % 256 ∷ n / 16777216 ∷ []

-- the last reply to a request that may move the machine: `e`, the ticks done, and what the machine does after them
unfoldable pub end_reply : (done : ℕ) → Standing → List ℕ
end_reply done s = frame 101 (long_bytes done ++ s.letter ∷ s.number % 256 ∷ s.number / 256 ∷ [])

-- why a request is refused: `!`, and a cause
unfoldable pub refusal : ℕ → List ℕ
refusal cause = frame 33 (cause ∷ [])

-- cells as the bytes of a frame
unfoldable pub cells_reply : (kind : ℕ) → List ℕ → List ℕ
cells_reply kind cells = frame kind (cells_bytes cells)

abbrev pub cell_reply : (kind : ℕ) → ℕ → List ℕ
cell_reply kind x = cells_reply kind (x ∷ [])

-- what a name means: `y` and the compilation address, or why none
unfoldable pub found_reply : Sought → List ℕ
found_reply (Found w) = cell_reply 121 w
found_reply Nowhere = refusal 4
found_reply TooLong = refusal 5

-- the view cell: `i` and the block, or why none
unfoldable pub view_reply : Result ℕ ViewRefused → List ℕ
view_reply (Ok b) = cell_reply 105 b
view_reply (Err vr.NotFound) = refusal 4
view_reply (Err vr.ChainTooLong) = refusal 5

-- why there is no text of SEE: of a word without a name, also its cell
abbrev pub see_cause : SeeRefused → List ℕ
see_cause sr.NotFound = 4 ∷ []
see_cause sr.ChainTooLong = 5 ∷ []
see_cause sr.NotColon = 6 ∷ []
see_cause sr.NotStructured = 7 ∷ []
see_cause (sr.Nameless w) = 8 ∷ cell_bytes w
see_cause sr.Shadowed = 9 ∷ []
see_cause sr.BadText = 10 ∷ []
see_cause sr.OutOfMemory = 11 ∷ []

-- SEE's text: `z`, or why none
unfoldable pub see_reply : (text : List ℕ) → Result (Unit {0}) SeeRefused → List ℕ
see_reply text (Ok u) = long_reply 122 text
see_reply text (Err e) = frame 33 (see_cause e)

-- bytes of memory, at most 2,048 of them
unfoldable pub memory_reply : List ℕ → (at n : ℕ) → List ℕ
memory_reply m at n = if nat_le n 2048 then frame 109 (bytes m at n) else refusal 3

abbrev pub extent_cause : DebugFault → ℕ
extent_cause df.NotFound = 4
extent_cause df.ChainTooLong = 5
extent_cause df.NotColon = 6
extent_cause df.OutOfMemory = 11

-- where a colon word's thread is, as DEBUG takes it: `j`, from here and up to there, or why none
unfoldable pub extent_reply : Result Extent DebugFault → List ℕ
extent_reply (Ok e) = cells_reply 106 (e.from ∷ e.end ∷ [])
extent_reply (Err fault) = refusal (extent_cause fault)

-- of a header: its compilation address, its view cell, its code field, and the byte with its marks and the length of its name
abbrev pub field_bytes : List ℕ → (link_field : ℕ) → List ℕ
field_bytes m l =
    let w = compilation_address m l in cell_bytes w ++ (cell_bytes (view_of m l) ++ (cell_bytes (cell m w) ++ byte m (wrap (l + 2)) ∷ []))

-- and then the name
unfoldable pub header_bytes : List ℕ → (link_field : ℕ) → List ℕ
header_bytes m l = field_bytes m l ++ name_of m l

-- a text for which the server has room, or 11
unfoldable pub text_reply : (kind : ℕ) → List ℕ → List ℕ
text_reply kind bytes = if nat_le (length bytes) TEXT_ROOM then long_reply kind bytes else refusal 11

-- by ascending link fields, these or all headers with their names; or DEBUG's line
abbrev pub listing_bytes : Listing → Whole → List ℕ
listing_bytes listing.Headers s = cells_bytes (headers s.memory)
listing_bytes listing.Words s = flat_map (header_bytes s.memory) (headers s.memory)
listing_bytes listing.TraceLine s = line s.memory (headers s.memory) s

abbrev pub listing_kind : Listing → ℕ
listing_kind listing.Headers = 104
listing_kind listing.Words = 97
listing_kind listing.TraceLine = 100

-- what needs the list of all headers: `h`, `a` or `d`, or why none
unfoldable pub listing_reply : Listing → Whole → List ℕ
listing_reply l s = if is_beyond_limit s.memory then refusal 5 else text_reply (listing_kind l) (listing_bytes l s)

-- the file of the image up to HERE: `t`, or 12 if HERE is no size of an image
unfoldable pub image_reply : Whole → (entry : ℕ) → List ℕ
image_reply s entry = if can_save s then long_reply 116 (file (saved s entry)) else refusal 12

-- what a machine has beside memory: `v`
unfoldable pub state_reply : Whole → List ℕ
state_reply s = cells_reply 118 (state_cells s)

-- all of it, to be put back: `G`
unfoldable pub registers_reply : State → List ℕ
registers_reply s = cells_reply 71 (register_cells s)
