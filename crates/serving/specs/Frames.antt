-- Frames of bytes.
use Rattle.std.specs.Prelude.{ℕ, zero, suc, ◌/◌, List, [], ◌∷◌, ◌++◌, length, take, drop}
use Rattle.memory.specs.Bytes.{cell_bytes}
use Rattle.serving.specs.declared.frames.Joined.{Joined}

-- a frame: its kind, its size with the low byte first, and its bytes
unfoldable pub frame : (kind : ℕ) → List ℕ → List ℕ
frame kind body = (kind ∷ cell_bytes (length body)) ++ body

-- a frame's bytes are 2,048 at most in a reply: so many full frames, and one with the rest
unfoldable pub pieces : (full kind : ℕ) → List ℕ → List ℕ
pieces zero kind bytes = frame kind bytes
pieces (suc n) kind bytes = frame kind (take 2048 bytes) ++ pieces n kind (drop 2048 bytes)

-- a long reply: the first frame that has fewer than 2,048 bytes, perhaps none, ends it
unfoldable pub long_reply : (kind : ℕ) → List ℕ → List ℕ
long_reply kind bytes = pieces (length bytes / 2048) kind bytes

-- bytes that are shown: no frame is empty
unfoldable pub shown_pieces : (size : ℕ) → List ℕ → List ℕ
shown_pieces zero bytes = []
shown_pieces (suc n) bytes = pieces (n / 2048) 115 bytes

unfoldable pub shown_reply : List ℕ → List ℕ
shown_reply bytes = shown_pieces (length bytes) bytes

-- bytes that lie in three places
unfoldable pub joined : Joined → List ℕ
joined j = j.front.now ++ (j.middle.now ++ j.back.now)
