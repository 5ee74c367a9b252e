-- Where a word's thread ends, and what an address is called.
use Rattle.std.specs.Prelude.{ℕ, ◌==◌, List, map, nat_le, min, find, Option, Some, None}
use Rattle.std.specs.List.{filter, reduce}
use Rattle.cells.specs.Cell.{difference}
use Rattle.memory.specs.Bytes.{cell}
use Rattle.memory.specs.declared.system.TheConstants.{DP}
use Rattle.dictionary.specs.Header.{compilation_address}

-- where a header begins: at its view cell
abbrev pub beginning : ℕ → ℕ
beginning l = difference l 2

-- the least of some numbers that isn't below a
abbrev pub least_from : ℕ → List ℕ → Option ℕ
least_from a numbers = reduce min (filter (nat_le a) numbers)

-- where what begins at an address ends: at the least beginning of one of the headers that isn't below it, else at DP
unfoldable pub extent_end : List ℕ → List ℕ → ℕ → ℕ
extent_end m headers from = elim (least_from from (map beginning headers)) [ Some b ↦ b | None ↦ cell m DP ]

-- the lowest of the headers that has this compilation address
unfoldable pub header_at : List ℕ → List ℕ → ℕ → Option ℕ
header_at m headers w = find (λ l. compilation_address m l == w) headers
