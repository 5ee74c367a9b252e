use Rattle.std.specs.Prelude.{ℕ, ◌+◌, List, Bool, nat_le, length}
use Rattle.cells.specs.Cell.{wrap}
use Rattle.memory.specs.Bytes.{cell, put_cell, put_bytes}
use Rattle.memory.specs.declared.system.TheConstants.{DP}

-- n bytes at HERE end at the limit at the latest, where the block buffers begin
unfoldable pub fits : ℕ → List ℕ → ℕ → Bool
fits limit m n = nat_le (cell m DP + n) limit

-- the bytes at an address, and then DP after them
unfoldable pub laid_at : ℕ → List ℕ → List ℕ → List ℕ
laid_at here m bs = put_cell (put_bytes m here bs) DP (wrap (here + length bs))
