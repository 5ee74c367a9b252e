-- What was opened and handed back, with what became of it.
use Rattle.std.specs.Prelude.{ℕ, List, [], ◌∷◌, ◌++◌, Bool, Option}
use Rattle.block_buffers.specs.DeviceCalls.{DeviceCall}

-- how many blocks there were, of those that were opened; and of what was handed back so far: the calls that blocks were given; what the
-- calls of a reader gave, bytes and ends, and whether one failed; the lines that a trace took, whether all of them were passed on, and
-- whether a call failed; each in order
pub record Uses : Type 0 where
  pub opened : List ℕ
  pub blocks : List (List DeviceCall)
  pub keys : List (List (Option ℕ) × Bool)
  pub traces : List (Option (List ℕ) × (Bool × Bool))

abbrev pub unused : Uses
unused = record { opened = []; blocks = []; keys = []; traces = [] }

-- blocks were opened, so many
abbrev pub with_opened : Uses → (count : ℕ) → Uses
with_opened u count = record u { opened = u.opened ++ count ∷ [] }

-- blocks were handed back, which were given these calls
abbrev pub with_blocks : Uses → (calls : List DeviceCall) → Uses
with_blocks u calls = record u { blocks = u.blocks ++ calls ∷ [] }

-- so many blocks were opened, and handed back after these calls
abbrev pub with_all : Uses → (count : ℕ) → (calls : List DeviceCall) → Uses
with_all u count calls = with_blocks (with_opened u count) calls

-- a reader was handed back, of which this was read
abbrev pub with_keys : Uses → (reads : List (Option ℕ)) → (failed : Bool) → Uses
with_keys u reads failed = record u { keys = u.keys ++ (reads, failed) ∷ [] }

-- a trace was handed back, into which these lines were written
abbrev pub with_trace : Uses → (lines : Option (List ℕ)) → (passed failed : Bool) → Uses
with_trace u lines passed failed = record u { traces = u.traces ++ (lines, (passed, failed)) ∷ [] }
