-- What compiling words make of memory. HERE is the cell DP.
use Rattle.std.specs.Prelude.{◌≡◌, ℕ, ◌+◌, List, length, Bool, ◌&&◌, not, int_lt, ◌+ℤ◌, pos, Result, Ok, Err, IsTrue, IsFalse}
use Rattle.cells.specs.Cell.{wrap, signed}
use Rattle.memory.specs.Bytes.{cell, put_cell}
use Rattle.memory.specs.declared.system.TheConstants.{DP}
use Rattle.dictionary.specs.Laying.{fits, laid_at}
use Rattle.compiling_words.specs.declared.laying.Full.{Full}

-- memory with the bytes written at HERE: DP is after them then
abbrev pub laid : List ℕ → List ℕ → List ℕ
laid m bs = laid_at (cell m DP) m bs

-- the bytes are written if they fit, else nothing is written
abbrev pub IsLaid : {A : Type 0} → ℕ → List ℕ → List ℕ → List ℕ → Result A Full → Type 0
IsLaid limit old new bs (Ok _) = IsTrue (fits limit old (length bs)) × (new ≡ laid old bs)
IsLaid limit old new bs (Err _) = IsFalse (fits limit old (length bs)) × (new ≡ old)

-- HERE moved by n, signed and not wrapped, is from 0 to the limit
unfoldable pub can_allot : ℕ → List ℕ → ℕ → Bool
can_allot limit m n =
    not (int_lt (pos (cell m DP) +ℤ signed n) (pos 0)) && not (int_lt (pos limit) (pos (cell m DP) +ℤ signed n))

-- memory with HERE moved by n
abbrev pub allotted : List ℕ → ℕ → List ℕ
allotted m n = put_cell m DP (wrap (cell m DP + n))

abbrev pub IsAllotted : ℕ → List ℕ → List ℕ → ℕ → Result Unit Full → Type 0
IsAllotted limit old new n (Ok _) = IsTrue (can_allot limit old n) × (new ≡ allotted old n)
IsAllotted limit old new n (Err _) = IsFalse (can_allot limit old n) × (new ≡ old)

-- memory in which the cell at a, which was left open, is HERE
abbrev pub resolved : List ℕ → ℕ → List ℕ
resolved m a = put_cell m a (cell m DP)
