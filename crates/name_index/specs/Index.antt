use Rattle.std.specs.Prelude.{ℕ, ◌*◌, ◌%◌, ◌<◌, ◌≤◌, ◌≡◌, ◌≢◌, List, length, slice_index, replicate, nat_lt, if◌then◌else◌, Option, Some, None, Box}
use Rattle.std.specs.declared.alloc.Global.{Global}
use Rattle.dictionary.specs.Header.{is_named}
use Rattle.dictionary.specs.Search.{walked}
use Rattle.name_index.specs.declared.index.NameIndex.{NameIndex}
use Rattle.name_index.specs.Slots.{slot_of}
use Rattle.name_index.specs.Watch.{Agree}

-- In each memory that agrees at what is watched, a search for a name of slot k comes to the same from member l of a chain
-- on as from member e on, at however many headers it looks, if at half as many as the address of the first, or more.
abbrev pub Same : ℕ → List ℕ → ℕ → ℕ → ℕ → Type 0
Same top m k l e =
    (other : List ℕ) → length other ≡ 65536 → Agree top m other
    → (name : List ℕ) → slot_of name ≡ k
    → (n p : ℕ) → l ≤ 2 * n → e ≤ 2 * p
    → walked (is_named other name) other n l ≡ walked (is_named other name) other p e

-- what slot k holds, e, may be taken for the member that is known of its class, and isn't newer
pub record Serves (top : ℕ) (m : List ℕ) (k known e : ℕ) : Type 0 where
  pub older : e ≤ known
  pub same : Same top m k known e

-- what the slots of a table hold: 0 each if there is no table
unfoldable pub slots_of : Option (Box (List ℕ) Global) → List ℕ
slots_of None = replicate 8192 0
slots_of (Some table) = table.value

-- the end of what is watched of the dictionary
abbrev pub top_of : NameIndex → ℕ
top_of index = index.top

-- an index that keeps nothing, and has no table
pub record IsEmpty (index : NameIndex) : Type 0 where
  pub table : index.table ≡ None
  pub heads : index.heads ≡ replicate 4 0
  pub top : index.top ≡ 256

-- the end of the addresses at which a write may change what is kept. Sixteen if nothing is kept
abbrev pub floor_of : NameIndex → ℕ
floor_of index = if nat_lt 256 index.top then index.top else 16

-- each slot serves the member that is known of its class, and what is watched ends at the limit at the latest
pub record IsRight (limit : ℕ) (index : NameIndex) (m : List ℕ) : Type 0 where
  pub bound : 256 < index.top → index.top ≤ limit
  pub slots : (k : ℕ) → k < 8192 → Serves index.top m k (slice_index index.heads (k % 4)) (slice_index (slots_of index.table) k)

unfoldable pub Holds : ℕ → NameIndex → List ℕ → Type 0
Holds limit index m = IsRight limit index m

-- a table in whose slots of a class is what serves the member f; the others are as they were
pub record IsAdmitted (top : ℕ) (m : List ℕ) (class f : ℕ) (before table : List ℕ) : Type 0 where
  pub slots : (k : ℕ) → k < 8192 → k % 4 ≡ class → Serves top m k f (slice_index table k)
  pub others : (k : ℕ) → k < 8192 → k % 4 ≢ class → slice_index table k ≡ slice_index before k
