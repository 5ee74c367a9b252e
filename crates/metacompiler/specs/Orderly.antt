-- An orderly dictionary: what must hold of a memory in which definitions are written.
use Rattle.std.specs.Prelude.{◌≡◌, ◌≤◌, ◌<◌, ◌+◌, ◌∷◌, [], ℕ, List, length, ◌⊎◌}
use Rattle.memory.specs.Bytes.{cell}
use Rattle.memory.specs.declared.system.TheConstants.{BASE, CURRENT, DP, STATE}
use Rattle.memory.specs.declared.limit.TheConstants.{GREATEST_LIMIT}
use Rattle.dictionary.specs.Header.{name_length}
use Rattle.dictionary.specs.Chain.{chain}
use Rattle.dictionary.specs.Search.{head_of}
use Rattle.metacompiler.specs.Loop.{Words, Thread}

-- the head of a chain of CURRENT's vocabulary, of CONTEXT's, or of FORTH
abbrev pub IsHead : (cur ctx g : ℕ) → Type 0
IsHead cur ctx g = (x : List ℕ) × ((g ≡ head_of cur x) ⊎ ((g ≡ head_of ctx x) ⊎ (g ≡ head_of 42 x)))

-- a header from 34 to here that meets no head
pub record HeaderClear (cur ctx here : ℕ) (n : List ℕ) (l : ℕ) : Type 0 where
  pub low : 34 ≤ l
  pub high : l + (5 + name_length n l) ≤ here
  pub apart : (g : ℕ) → IsHead cur ctx g → (g + 1 < l) ⊎ (l + (5 + name_length n l) ≤ g)

abbrev pub HeadersClear : (cur ctx here : ℕ) → List ℕ → List ℕ → Type 0
HeadersClear cur ctx here n [] = here ≡ here
HeadersClear cur ctx here n (l ∷ ls) = HeaderClear cur ctx here n l × HeadersClear cur ctx here n ls

-- a chain of such headers, at most so many
pub record ChainClear (cur ctx most here : ℕ) (n : List ℕ) (h : ℕ) : Type 0 where
  pub beside : (g : ℕ) → IsHead cur ctx g → (h ≡ g) ⊎ ((g + 1 < h) ⊎ (h + 1 < g))
  pub members : HeadersClear cur ctx here n (chain n 32769 (cell n h))
  pub short : length (chain n 32769 (cell n h)) ≤ most

-- a cell from CURRENT to here that doesn't meet a head
pub record CellApart (here g l : ℕ) : Type 0 where
  pub low : 34 ≤ l
  pub high : l + 1 < here
  pub beside : (g + 1 < l) ⊎ (l + 1 < g)

-- what is read of INTERPRET's thread is below here, away from a head
pub record ThreadApart (ws : Words) (a here g : ℕ) : Type 0 where
  pub start : 34 ≤ a
  pub behind : a + 22 ≤ here
  pub beside : (g + 1 < a) ⊎ (a + 22 ≤ g)
  pub interpret : CellApart here g ws.interpret
  pub scan : CellApart here g ws.scan
  pub query_dup : CellApart here g ws.query_dup
  pub zero_branch : CellApart here g ws.zero_branch
  pub zero_greater : CellApart here g ws.zero_greater
  pub execute : CellApart here g ws.execute
  pub branch : CellApart here g ws.branch
  pub exit : CellApart here g ws.exit

-- n is an orderly dictionary, on which definitions can be written: HERE is below the limit, and each chain has at most so
-- many headers. The vocabulary CURRENT is cur, CONTEXT is ctx, and INTERPRET's thread is at a.
pub record Orderly (limit : ℕ) (ws : Words) (a cur ctx most here : ℕ) (n : List ℕ) : Type 0 where
  pub dp : cell n DP ≡ here
  pub current : cell n CURRENT ≡ cur
  pub executing : cell n STATE ≡ 0
  pub ten : cell n BASE ≡ 10
  pub low : 256 ≤ here
  pub high : here ≤ limit
  pub top : limit ≤ GREATEST_LIMIT
  pub all : length n ≡ 65536
  pub thread : Thread ws n a
  pub apart : (g : ℕ) → IsHead cur ctx g → ThreadApart ws a here g
  pub heads : (g : ℕ) → IsHead cur ctx g → ((42 ≤ g) × (g + 1 < 52)) ⊎ ((256 ≤ g) × (g + 1 < here))
  pub chains : (h : ℕ) → IsHead cur ctx h → ChainClear cur ctx most here n h
