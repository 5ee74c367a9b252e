-- What writing bytes leaves as it was.
use Rattle.std.proofs.Common.{◌≡◌, ℕ, ◌+◌, ◌<◌, ◌≤◌, ◌++◌, List, length, arith}
use Rattle.cells.specs.Cell.{wrap}
use Rattle.memory.specs.Bytes.{put_bytes}
use Rattle.memory.proofs.Same.{Stands}
use Rattle.memory.proofs.Stands.{lay, cell_below}
use Rattle.dictionary.specs.Laying.{laid_at}

-- what is written after the bytes at a place follows them
pub laid : (m bs cs : List ℕ) (at n : ℕ) → length m ≡ 65536 → 256 ≤ at → n ≡ at + length bs → n + length cs < 65536 → Stands m at bs → Stands (laid_at n m cs) at (bs ++ cs)
unfolding laid_at
laid m bs cs at n l g q h s = cell_below (put_bytes m n cs) (bs ++ cs) at 28 (wrap (n + length cs)) (omega arith) (omega arith) (lay m bs cs at n l q h s)
