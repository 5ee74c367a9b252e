-- What a row that stops leaves as it was.
use Rattle.std.specs.Prelude.{◌≡◌}
use Rattle.block_buffers.specs.Entries.{IsReordered}
use Rattle.machine_parts.specs.Whole.{Whole}
use Rattle.machine_parts.specs.Row.{After}
use Rattle.machine_parts.specs.declared.parts.Outcome.TheVariants.{Fault, Abort, Ask}

-- all but the order of the buffers is the same
pub record Keeps (old new : Whole) : Type 0 where
  pub memory : new.memory ≡ old.memory
  pub values : new.values ≡ old.values
  pub returns : new.returns ≡ old.returns
  pub ip : new.ip ≡ old.ip
  pub pending : new.pending ≡ old.pending
  pub buffers : IsReordered old.buffers new.buffers
  pub block_count : new.block_count ≡ old.block_count
  pub place : new.place ≡ old.place

-- a row that ends with a fault, with an abort or with a request writes nothing and takes nothing
abbrev pub StopsKeeping : Whole → After → Type 0
StopsKeeping s (t, Fault f) = Keeps s t
StopsKeeping s (t, Abort span) = Keeps s t
StopsKeeping s (t, Ask request) = Keeps s t
StopsKeeping s (t, _) = Unit {0}
