-- How many ticks a turn of INTERPRET's loop takes if (INTERPRET) takes one.
use Rattle.std.specs.Prelude.{◌≡◌, ◌≤◌, ◌<◌, ℕ, ◌+◌, ◌∷◌, List, [], length, true, nat_lt}
use Rattle.memory.specs.Bytes.{cell}
use Rattle.block_buffers.specs.Disks.{Disk}
use Rattle.machine_parts.specs.Whole.{Whole}
use Rattle.machine_parts.specs.declared.parts.Outcome.TheVariants.{Done}
use Rattle.primitives.specs.Table.{row}
use Rattle.metacompiler.specs.Loop.{Words, Thread}
use Rattle.metacompiler.specs.declared.rows.TheConstants.{INTERPRET}
use Rattle.metacompiler.specs.Rounds.{Goes, at, out, rounds, Ended}

-- (INTERPRET) makes v of u, and leaves the stack e in place of d; INTERPRET's thread is in both
pub record Scanned (ws : Words) (a : ℕ) (u v : Whole) (d e : List ℕ) : Type 0 where
  pub low : 0 < a
  pub before : Thread ws u.memory a
  pub behind : Thread ws v.memory a
  pub room : length d ≤ 250
  pub scanned : row INTERPRET ws.scan (at u d (a + 2)) ≡ (at v e (a + 2), Done)

-- six ticks if it compiled a word or a number
abbrev pub CompiledIn6 : Type 0
CompiledIn6 =
    (ws : Words) (a : ℕ) (u v : Whole) (f : Disk) (d : List ℕ) →
    Scanned ws a u v d (65535 ∷ d) → Goes 6 (at u d a) f (at v d a) f

-- eight if it left a word w, whose row does it
abbrev pub ExecutedIn8 : Type 0
ExecutedIn8 =
    (ws : Words) (a : ℕ) (u v z : Whole) (f : Disk) (d e : List ℕ) (w n : ℕ) →
    Scanned ws a u v d (1 ∷ w ∷ d) → cell v.memory w ≡ n → nat_lt n 256 ≡ true → Thread ws z.memory a
    → row n w (at v d (a + 16)) ≡ (at z e (a + 16), Done) → Goes 8 (at u d a) f (at z e a) f

-- four if no word was left, and the screen ends
abbrev pub EndedIn4 : Type 0
EndedIn4 =
    (ws : Words) (a : ℕ) (u v : Whole) (f : Disk) (d : List ℕ) (k : ℕ) →
    Scanned ws a u v d (0 ∷ d) → v.returns ≡ 0 ∷ []
    → rounds (3 + (k + 1)) (at u d a) f ≡ out (record (at v d 0) { returns = [] }) f k Ended
