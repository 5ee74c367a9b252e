use Rattle.std.specs.Prelude.{ℕ, zero, suc, ◌+◌, ◌-◌, ◌*◌, ◌%◌, ◌/◌, ◌≤◌, ◌++◌, List, [], ◌∷◌, slice_index, slice_set, take, drop, replicate, length}
use Rattle.cells.specs.Cell.{wrap}

-- the byte at address a
unfoldable pub byte : List ℕ → ℕ → ℕ
byte m a = slice_index m a

-- the cell at a: its low byte is at the lower address, and addresses wrap
unfoldable pub cell : List ℕ → ℕ → ℕ
cell m a = byte m a + 256 * byte m (wrap (a + 1))

-- memory with byte b at a
unfoldable pub put_byte : List ℕ → ℕ → ℕ → List ℕ
put_byte m a b = slice_set m a b

-- memory with the cell x at a
unfoldable pub put_cell : List ℕ → ℕ → ℕ → List ℕ
put_cell m a x = put_byte (put_byte m a (x % 256)) (wrap (a + 1)) (x / 256)

-- the n bytes from a on: memory is read on from its beginning after its end
unfoldable pub bytes : List ℕ → ℕ → ℕ → List ℕ
bytes m a n = take n (drop a m ++ m)

-- byte b at each of the n addresses from a on
unfoldable pub filled : List ℕ → ℕ → ℕ → ℕ → List ℕ
filled m a zero b = m
filled m a (suc n) b = put_byte (filled m a n b) (wrap (a + n)) b

-- byte from + i is written to to + i, for i = 0 .. n - 1 in turn
unfoldable pub moved_up : List ℕ → ℕ → ℕ → ℕ → List ℕ
moved_up m from to zero = m
moved_up m from to (suc n) =
    let before = moved_up m from to n in put_byte before (wrap (to + n)) (byte before (wrap (from + n)))

-- the same for i = n - 1 .. 0 in turn
unfoldable pub moved_down : List ℕ → ℕ → ℕ → ℕ → List ℕ
moved_down m from to zero = m
moved_down m from to (suc n) = moved_down (put_byte m (wrap (to + n)) (byte m (wrap (from + n)))) from to n

-- memory of zeros
unfoldable pub zeros : List ℕ
zeros = replicate 65536 0

-- the bytes bs, and what memory has after them
unfoldable pub front_put : List ℕ → List ℕ → List ℕ
front_put bs m = bs ++ drop (length bs) m

-- how many block buffers there may be
abbrev pub IsCount : ℕ → Type 0
IsCount count = (2 ≤ count) × (count ≤ 16)

-- where they begin: they are at the end of memory, and the dictionary ends there at the latest
unfoldable pub limit_of : ℕ → ℕ
limit_of count = 65536 - 1024 * count

-- the 1,024 bytes from an address on
unfoldable pub page : List ℕ → ℕ → List ℕ
page m at = take 1024 (drop at m)

-- memory with these bytes from an address on
unfoldable pub with_page : List ℕ → ℕ → List ℕ → List ℕ
with_page m at bs = take at m ++ (bs ++ drop (at + 1024) m)

-- the bytes bs from a on, in turn
unfoldable pub put_bytes : List ℕ → ℕ → List ℕ → List ℕ
put_bytes m a [] = m
put_bytes m a (b ∷ bs) = put_bytes (put_byte m a b) (wrap (a + 1)) bs

-- the two bytes of a cell, the low one first
unfoldable pub cell_bytes : ℕ → List ℕ
cell_bytes x = x % 256 ∷ x / 256 ∷ []

-- what is written: a cell, or bytes from an address on
pub data Write : Type 0 where
  PutCell : ℕ → ℕ → Write
  PutBytes : ℕ → List ℕ → Write

abbrev pub with_write : List ℕ → Write → List ℕ
with_write m (PutCell a x) = put_cell m a x
with_write m (PutBytes a bs) = put_bytes m a bs

-- the writes made in turn
unfoldable pub written : List ℕ → List Write → List ℕ
written m [] = m
written m (w ∷ ws) = written (with_write m w) ws
