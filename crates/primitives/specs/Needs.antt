-- The blocks that a row needs, and how many requests of its device it makes at most.
use Rattle.std.specs.Prelude.{ℕ, ◌*◌, List, [], ◌∷◌, ◌++◌, ◌==◌, ◌||◌, ◌&&◌, Bool, if◌then◌else◌, nat_le, length, take, count_by}
use Rattle.std.specs.List.{list_any}
use Rattle.block_buffers.specs.Entries.{is_updated}
use Rattle.memory.specs.Bytes.{cell}
use Rattle.memory.specs.declared.system.TheConstants.{BLK, SCR}
use Rattle.machine_parts.specs.Whole.{Whole}

-- WORD ( .( ' (INTERPRET) CREATE FORGET VOCABULARY : ['] [COMPILE] ." ABORT" CONSTANT VARIABLE PUT INSERT read the input
-- stream
unfoldable pub reads_stream : ℕ → Bool
reads_stream n = list_any (λ k. k == n)
    (144 ∷ 145 ∷ 146 ∷ 148 ∷ 149 ∷ 150 ∷ 152 ∷ 156 ∷ 168 ∷ 176 ∷ 177 ∷ 190 ∷ 191 ∷ 192 ∷ 193 ∷ 201 ∷ 202 ∷ [])

-- LINE PUT INSERT DELETE WIPE are about the screen
unfoldable pub is_about_screen : ℕ → Bool
is_about_screen n = nat_le 200 n && nat_le n 204

-- the stream's block, if it is in one
unfoldable pub stream_needs : Whole → List ℕ
stream_needs s = if cell s.memory BLK == 0 then [] else cell s.memory BLK ∷ []

-- the blocks that row n needs, in the order of its references: BLOCK's own; the stream's, and then the screen's
unfoldable pub needed : ℕ → Whole → List ℕ
needed n s =
    if n == 112 then take 1 s.values
    else (if reads_stream n then stream_needs s else []) ++ (if is_about_screen n then cell s.memory SCR ∷ [] else [])

-- two for each block that it needs; one for BUFFER; one for each updated buffer for SAVE-BUFFERS and FLUSH
unfoldable pub most_requests : ℕ → Whole → ℕ
most_requests n s =
    if n == 113 then 1
    else if (n == 115) || (n == 116) then count_by is_updated s.buffers
    else 2 * length (needed n s)
