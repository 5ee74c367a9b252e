use Rattle.std.proofs.Common.{◌≡◌, ◌<◌, ℕ, length, get_or}
use Rattle.containers.specs.Layouts.{place}
use Rattle.containers.proofs.reading.gathered.Given as goal

abbrev pub invariant-loop-byte : goal.invariant-loop-byte
invariant-loop-byte l = (length l.screens.items ≡ l.byte) × ((i : ℕ) → i < l.byte → get_or l.screens.items i 0 ≡ get_or l.container (place l.layout i) 0)
