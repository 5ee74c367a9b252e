-- Requests: what they are, and the frames that spell them.
use Rattle.std.specs.Prelude.{◌<◌, ◌==◌, ◌+◌, ◌*◌, ℕ, List, [], ◌∷◌, ◌++◌, Bool, true, false, length, take, slice_index, if◌then◌else◌}
use Rattle.memory.specs.Bytes.{cell_bytes}
use Rattle.machine.specs.Answer.{Reply, Key, Line, InputEnd, InputFault, ReadOk, ReadFault, WriteOk, WriteFault, IsSpelled, seen}
use Rattle.serving.specs.Replies.{long_bytes}
use Rattle.serving.specs.declared.requests.Command.{Command}
use Rattle.serving.specs.declared.requests.Command.TheVariants as command
use Rattle.serving.specs.declared.requests.Listing.{Listing}
use Rattle.serving.specs.declared.requests.Listing.TheVariants.{Headers, Words, TraceLine}

-- a request, with the bytes that it lends
pub data Wish : Type 0 where
  Run : (limit : ℕ) → Wish
  Answer : Reply → Wish
  Enter : (word : ℕ) → Wish
  SetCell : (address x : ℕ) → Wish
  SetBytes : (at : ℕ) → (bytes : List ℕ) → Wish
  Look : Wish
  Registers : Wish
  PutBack : (body : List ℕ) → Wish
  Memory : (at n : ℕ) → Wish
  Find : (name : List ℕ) → Wish
  View : (name : List ℕ) → Wish
  See : (name : List ℕ) → Wish
  Listed : Listing → Wish
  Extent : (name : List ℕ) → Wish
  Image : (entry : ℕ) → Wish
  Save : Wish
  Quit : Wish
  Version : Wish
  Unknown : Wish

abbrev pub wish_of : Command → Wish
wish_of (command.Run limit) = Run limit
wish_of (command.Answer answer) = Answer (seen answer)
wish_of (command.Enter word) = Enter word
wish_of (command.SetCell address x) = SetCell address x
wish_of (command.SetBytes at bytes) = SetBytes at bytes.now
wish_of command.Look = Look
wish_of command.Registers = Registers
wish_of (command.PutBack body) = PutBack body.now
wish_of (command.Memory at n) = Memory at n
wish_of (command.Find name) = Find name.now
wish_of (command.View name) = View name.now
wish_of (command.See name) = See name.now
wish_of (command.Listed listing) = Listed listing
wish_of (command.Extent name) = Extent name.now
wish_of (command.Image entry) = Image entry
wish_of command.Save = Save
wish_of command.Quit = Quit
wish_of command.Version = Version
wish_of command.Unknown = Unknown

-- a frame without its size
pub record Frame : Type 0 where
  pub kind : ℕ
  pub body : List ℕ

abbrev pub framed : ℕ → List ℕ → Frame
framed kind body = record { kind = kind; body = body }

-- the frame that spells a request: an answer first
abbrev pub reply_frame : Reply → Frame
reply_frame (Key c) = framed 107 (c ∷ [])
reply_frame (Line bytes returned) = framed 108 ((if returned then 1 else 0) ∷ bytes)
reply_frame InputEnd = framed 120 []
reply_frame InputFault = framed 117 []
reply_frame (ReadOk page) = framed 112 page
reply_frame ReadFault = framed 102 []
reply_frame WriteOk = framed 119 []
reply_frame WriteFault = framed 103 []

-- no frame spells an unknown one
abbrev pub wish_frame : Wish → Frame
wish_frame (Run limit) = framed 114 (long_bytes limit)
wish_frame (Answer reply) = reply_frame reply
wish_frame (Enter word) = framed 110 (cell_bytes word)
wish_frame (SetCell address x) = framed 99 (cell_bytes address ++ cell_bytes x)
wish_frame (SetBytes at bytes) = framed 77 (cell_bytes at ++ bytes)
wish_frame Look = framed 118 []
wish_frame Registers = framed 71 []
wish_frame (PutBack body) = framed 80 body
wish_frame (Memory at n) = framed 109 (cell_bytes at ++ cell_bytes n)
wish_frame (Find name) = framed 121 name
wish_frame (View name) = framed 105 name
wish_frame (See name) = framed 122 name
wish_frame (Listed Headers) = framed 104 []
wish_frame (Listed Words) = framed 97 []
wish_frame (Listed TraceLine) = framed 100 []
wish_frame (Extent name) = framed 106 name
wish_frame (Image entry) = framed 116 (cell_bytes entry)
wish_frame Save = framed 98 []
wish_frame Quit = framed 113 []
wish_frame Version = framed 86 []
wish_frame Unknown = framed 0 []

-- the cell at a place of a body
abbrev pub cell_in : List ℕ → ℕ → ℕ
cell_in body i = slice_index body i + 256 * slice_index body (i + 1)

-- a number of four bytes at the front of a body
abbrev pub long_in : List ℕ → ℕ
long_in body = cell_in body 0 + 65536 * cell_in body 2

-- the request of a body that has so many bytes
unfoldable pub sized : List ℕ → ℕ → Wish → Wish
sized body n wish = if length body == n then wish else Unknown

-- the request that a body spells in a frame of some kind
unfoldable pub line_wish : List ℕ → Wish
line_wish [] = Unknown
line_wish (r ∷ bytes) =
    if r == 0 then Answer (Line bytes false)
    else if r == 1 then Answer (Line bytes true)
    else Unknown

-- the page of a body that is one
unfoldable pub page_in : List ℕ → List ℕ
page_in body = take 1024 body

unfoldable pub is_page : List ℕ → Bool
is_page body = length body == 1024

unfoldable pub page_wish : List ℕ → Wish
page_wish body = if is_page body then Answer (ReadOk (page_in body)) else Unknown

unfoldable pub bytes_wish : List ℕ → Wish
bytes_wish (low ∷ high ∷ bytes) = SetBytes (low + 256 * high) bytes
bytes_wish _ = Unknown

-- the request that a frame spells
unfoldable pub wished : (kind : ℕ) → (body : List ℕ) → Wish
wished kind body =
    if kind == 114 then sized body 4 (Run (long_in body))
    else if kind == 107 then sized body 1 (Answer (Key (slice_index body 0)))
    else if kind == 108 then line_wish body
    else if kind == 120 then sized body 0 (Answer InputEnd)
    else if kind == 117 then sized body 0 (Answer InputFault)
    else if kind == 112 then page_wish body
    else if kind == 102 then sized body 0 (Answer ReadFault)
    else if kind == 119 then sized body 0 (Answer WriteOk)
    else if kind == 103 then sized body 0 (Answer WriteFault)
    else if kind == 110 then sized body 2 (Enter (cell_in body 0))
    else if kind == 99 then sized body 4 (SetCell (cell_in body 0) (cell_in body 2))
    else if kind == 77 then bytes_wish body
    else if kind == 118 then sized body 0 Look
    else if kind == 71 then sized body 0 Registers
    else if kind == 80 then PutBack body
    else if kind == 109 then sized body 4 (Memory (cell_in body 0) (cell_in body 2))
    else if kind == 121 then Find body
    else if kind == 105 then View body
    else if kind == 122 then See body
    else if kind == 104 then sized body 0 (Listed Headers)
    else if kind == 97 then sized body 0 (Listed Words)
    else if kind == 106 then Extent body
    else if kind == 100 then sized body 0 (Listed TraceLine)
    else if kind == 116 then sized body 2 (Image (cell_in body 0))
    else if kind == 98 then sized body 0 Save
    else if kind == 113 then sized body 0 Quit
    else if kind == 86 then sized body 0 Version
    else Unknown

abbrev pub is_quit : Wish → Bool
is_quit Quit = true
is_quit _ = false

-- a request that a frame spells: its numbers fit their bytes
abbrev pub CanBeSpelled : Wish → Type 0
CanBeSpelled (Run limit) = limit < 4294967296
CanBeSpelled (Answer reply) = IsSpelled reply
CanBeSpelled (Enter word) = word < 65536
CanBeSpelled (SetCell address x) = (address < 65536) × (x < 65536)
CanBeSpelled (SetBytes at bytes) = at < 65536
CanBeSpelled (Memory at n) = (at < 65536) × (n < 65536)
CanBeSpelled (Image entry) = entry < 65536
CanBeSpelled Unknown = ⊥
CanBeSpelled _ = Unit {0}

abbrev pub is_known : Wish → Bool
is_known Unknown = false
is_known _ = true
