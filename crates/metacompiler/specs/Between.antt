-- A machine between two definitions.
use Rattle.std.specs.Prelude.{◌≡◌, ℕ, List, length}
use Rattle.memory.specs.Bytes.{cell}
use Rattle.memory.specs.declared.system.TheConstants.{CONTEXT}
use Rattle.resident_bodies.specs.Definitions.{Agrees}

-- its memory agrees with n, and this vocabulary is searched first
pub record IsBetween (n : List ℕ) (voc : ℕ) (m : List ℕ) : Type 0 where
  pub agrees : Agrees m n
  pub context : cell m CONTEXT ≡ voc
  pub all : length m ≡ 65536
