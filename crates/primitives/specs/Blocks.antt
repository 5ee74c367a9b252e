-- A block that a row needs.
use Rattle.std.specs.Prelude.{◌≡◌, ℕ, ◌<◌, length, nat_lt, ◌&&◌, Bool, if◌then◌else◌, unwrap_or, IsTrue, IsFalse, Result, Ok, Err}
use Rattle.machine_parts.specs.Whole.{Whole}
use Rattle.machine_parts.specs.declared.parts.Outcome.{Outcome}
use Rattle.machine_parts.specs.declared.parts.Outcome.TheVariants.{Fault, Ask}
use Rattle.machine_parts.specs.declared.parts.Request.TheVariants.{Read, Write}
use Rattle.machine_parts.specs.declared.faults.TheConstants.{NO_BLOCK}
use Rattle.machine_parts.specs.Row.{After}
use Rattle.block_buffers.specs.declared.entry.Entry.{Entry}
use Rattle.block_buffers.specs.Entries.{holds, slot_of, victim, moved_front}

-- asks that the block of an entry be written
abbrev pub write_of : Entry → Outcome
write_of e = Ask (Write (unwrap_or e.block 0))

-- block u is available, and a buffer has it
unfoldable pub has_block : Whole → ℕ → Bool
has_block s u = nat_lt u s.block_count && holds s.buffers u

-- what comes if no buffer has block u: fault 7 if it is not available, else the victim's write if that is
-- updated, else the block's read
unfoldable pub without_block : Whole → ℕ → Outcome
without_block s u =
    if nat_lt u s.block_count then (if (victim s.buffers).updated then write_of (victim s.buffers) else Ask (Read u))
    else Fault NO_BLOCK

-- block u is referenced
abbrev pub referenced : Whole → ℕ → Whole
referenced s u = record s { buffers = moved_front (slot_of s.buffers u) s.buffers }

-- a row that needs block u: goes on with it referenced, and its slot; else the row stops, and comes again once it is
-- answered
abbrev pub fetches : Whole → ℕ → (Whole → ℕ → After) → After
fetches s u after = if has_block s u then after (referenced s u) (slot_of s.buffers u) else (s, without_block s u)

-- what the code's fetch answers
abbrev pub IsFetched : Whole → Whole → ℕ → Result ℕ Outcome → Type 0
IsFetched old new u (Ok slot) =
    IsTrue (has_block old u) × (new ≡ referenced old u)
    × (slot ≡ slot_of old.buffers u) × (slot < length new.buffers)
IsFetched old new u (Err o) = IsFalse (has_block old u) × (new ≡ old) × (o ≡ without_block old u)
