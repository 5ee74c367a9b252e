-- A definition that the resident compiler has written in part.
use Rattle.std.specs.Prelude.{◌≡◌, ◌≢◌, ℕ, ◌+◌, ◌<◌, ◌≤◌, ◌/◌, List, [], ◌++◌, length, Option, Some}
use Rattle.memory.specs.Bytes.{byte, cell}
use Rattle.memory.specs.declared.limit.TheConstants.{GREATEST_LIMIT}
use Rattle.memory.specs.declared.system.TheConstants.{DP}
use Rattle.memory.proofs.Same.{Stands}
use Rattle.stacks.specs.Cells.{◌▸◌}
use Rattle.compiling_words.specs.Code.{runtime}
use Rattle.machine_parts.specs.Whole.{Whole}
use Rattle.colon_bodies.specs.declared.words.Half.{Half}
use Rattle.colon_bodies.specs.Tokens.{Token, laid_by}
use Rattle.colon_bodies.specs.Tree.{Body, Definition}
use Rattle.colon_bodies.specs.Code.{size, all_size, all_code}
use Rattle.colon_bodies.specs.Open.{Outer, Top, Past, InIf, InElse, InBegin, InWhile, InDo, State, At, read, outer_size, open_size, open_code}
use Rattle.resident_bodies.specs.Words.{FitsHere}

-- the cells that open structures have on the data stack: places of cells left open, and places to go back to
abbrev pub places : (at : ℕ) → Outer → List ℕ
places at Top = []
places at (Past t) = []
places at (InIf o t) = places at o ▸ (at + (outer_size o + size t + 2))
places at (InElse o t a) = places at o ▸ (at + (outer_size o + size t + (4 + size a) + 2))
places at (InBegin o t) = places at o ▸ (at + (outer_size o + size t))
places at (InWhile o t a) = places at o ▸ (at + (outer_size o + size t)) ▸ (at + (outer_size o + size t + size a + 2))
places at (InDo o t) = places at o ▸ (at + (outer_size o + size t + 2)) ▸ (at + (outer_size o + size t + 4))

-- below a place memory is as it was, except >IN and BLK (20 to 23) and DP (28 and 29)
abbrev pub Kept : (at : ℕ) → (m before : List ℕ) → Type 0
Kept at m before = (i : ℕ) → i < at → i / 4 ≢ 5 → i / 2 ≢ 14 → byte m i ≡ byte before i

-- The words that were read are o, t and h: their bytes are at a place, up to HERE; the open structures' cells are on the
-- data stack, on top of those below; and in what is below that place nothing has changed since the body began, so the
-- control primitives are those of that memory.
pub record Draft (before : List ℕ) (at : ℕ) (o : Outer) (t : Body) (h : Half) (m d below : List ℕ) : Type 0 where
  pub stands : Stands m at (open_code (runtime before) o t h at)
  pub here : cell m DP ≡ at + open_size o t h
  pub kept : Kept at m before
  pub all : length m ≡ 65536
  pub stack : d ≡ places at o ++ below

-- where a body begins: the memory and the data stack of then, and its place
pub record Beginning : Type 0 where
  pub memory : List ℕ
  pub at : ℕ
  pub stack : List ℕ

-- a draft of what was read, with memory and the data stack as they are now
abbrev pub IsDraft : Beginning → State → List ℕ × List ℕ → Type 0
IsDraft b (At o t h) now = Draft b.memory b.at o t h now.0 now.1 b.stack

-- what one more word makes of what was read
abbrev pub read_on : State → Token → Option State
read_on (At o t h) word = read o t h word

-- A body that begins at a place may grow by so many bytes: it comes after the system's cells, and HERE that far below
-- where block buffers may begin.
pub record HasRoom (at : ℕ) (m : List ℕ) (size : ℕ) : Type 0 where
  pub low : 256 ≤ at
  pub high : cell m DP + size ≤ GREATEST_LIMIT

-- A word may come next with these parts: it fits what was read, its bytes fit below the block buffers, and six cells more
-- on the data stack.
pub record MayCome (b : Beginning) (before : State) (word : Token) (s : Whole) : Type 0 where
  pub draft : IsDraft b before (s.memory, s.values)
  pub behind : State
  pub fits : read_on before word ≡ Some behind
  pub room : FitsHere s (laid_by word)
  pub cells : length s.values ≤ 250

-- The body of a definition is written at a place: its bytes are between that and HERE, and below it nothing has changed.
pub record Bodied (before : List ℕ) (at : ℕ) (body : Definition) (m : List ℕ) : Type 0 where
  pub stands : Stands m at (all_code (runtime before) body at)
  pub here : cell m DP ≡ at + all_size body
  pub kept : Kept at m before
  pub all : length m ≡ 65536
