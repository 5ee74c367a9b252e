-- What a machine's memory m shows of a memory n in which definitions are written.
use Rattle.std.specs.Prelude.{◌≡◌, ◌≤◌, ◌<◌, ◌+◌, ℕ, List}
use Rattle.memory.specs.Bytes.{cell}
use Rattle.memory.specs.declared.system.TheConstants.{BASE}
use Rattle.memory.specs.declared.limit.TheConstants.{GREATEST_LIMIT}
use Rattle.dictionary.specs.Header.{is_immediate, compilation_address}
use Rattle.dictionary.specs.Search.{Found, sought, sought_from}
use Rattle.metacompiler.specs.Loop.{Words, Thread}

-- a header is the same, and its code field is from 34 to here
pub record IsSeen (here : ℕ) (n m : List ℕ) (l : ℕ) : Type 0 where
  pub immediate : is_immediate m l ≡ is_immediate n l
  pub address : compilation_address m l ≡ compilation_address n l
  pub code : cell m (compilation_address n l) ≡ cell n (compilation_address n l)
  pub low : 34 ≤ compilation_address n l
  pub high : compilation_address n l + 1 < here

-- the machine finds what the search in a vocabulary finds in n; INTERPRET's thread exists, and BASE is 10
pub record Sees (limit : ℕ) (ws : Words) (a here : ℕ) (n : List ℕ) (voc : ℕ) (m : List ℕ) : Type 0 where
  pub sought_is : (x : List ℕ) → sought m x ≡ sought_from n voc x
  pub header : (x : List ℕ) (l : ℕ) → sought_from n voc x ≡ Found l → IsSeen here n m l
  pub thread : Thread ws m a
  pub ten : cell m BASE ≡ 10
  pub fits : here ≤ limit
  pub top : limit ≤ GREATEST_LIMIT
  pub start : 34 ≤ a
  pub behind : a + 22 ≤ here
