-- A line of typed bytes.
use Rattle.std.specs.Prelude.{◌≡◌, ◌<◌, ℕ, zero, suc, length, Bool, true, false, List, [], ◌∷◌, ◌++◌, Option, Some, if◌then◌else◌}
use Rattle.std.specs.List.{list_all}
use Rattle.machine_parts.specs.declared.parts.Request.{Request}
use Rattle.machine_parts.specs.declared.parts.Request.TheVariants as request
use Rattle.machine.specs.Answer.{Reply, Line, InputEnd, is_return, is_typed}

-- a line's bytes, whether a return ended it, and the bytes after it
pub record Taken : Type 0 where
  pub bytes : List ℕ
  pub returned : Bool
  pub rest : List ℕ

-- a line ends at a byte 10 or 13, which isn't stored, at n bytes, or at the end of input
abbrev pub line_of : ℕ → List ℕ → Taken
line_of zero typed = record { bytes = []; returned = false; rest = typed }
line_of (suc n) [] = record { bytes = []; returned = false; rest = [] }
line_of (suc n) (c ∷ typed) =
    if is_return c then record { bytes = []; returned = true; rest = typed }
    else (let line = line_of n typed in record { bytes = c ∷ line.bytes; returned = line.returned; rest = line.rest })

-- the end of input at once is no line
abbrev pub line_reply : List ℕ → Bool → Reply
line_reply [] false = InputEnd
line_reply [] true = Line [] true
line_reply (c ∷ bytes) returned = Line (c ∷ bytes) returned

-- a line was taken from the typed bytes
abbrev pub IsLine : ℕ → List ℕ → List ℕ → Bool → Option (List ℕ) → Type 0
IsLine n typed bytes returned unread =
    (bytes ≡ (line_of n typed).bytes) × (returned ≡ (line_of n typed).returned) × (unread ≡ Some (line_of n typed).rest)

-- a line of at most n bytes was started: bytes of it are taken from the typed bytes, and no others
pub record IsBegun (n : ℕ) (typed : List ℕ) (unread : Option (List ℕ)) : Type 0 where
  pub gone : List ℕ
  pub rest : List ℕ
  pub typed_is : typed ≡ gone ++ rest
  pub in_line : list_all is_typed gone ≡ true
  pub few : length gone < n
  pub unread_is : unread ≡ Some rest

-- if reading failed for a request, bytes of the line that it asks for may be gone, and of a key none
abbrev pub IsLeft : Option Request → List ℕ → Option (List ℕ) → Type 0
IsLeft (Some (request.Line n)) typed unread = IsBegun n typed unread
IsLeft _ typed unread = unread ≡ Some typed

-- a line that begins with these bytes
abbrev pub with_front : List ℕ → Taken → Taken
with_front front line = record { bytes = front ++ line.bytes; returned = line.returned; rest = line.rest }
