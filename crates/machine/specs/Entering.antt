-- What a host does with a machine beside its moves: a word is entered, a cell is written, memory is saved as an image.
use Rattle.std.specs.Prelude.{ℕ, List, [], length, take, Some, Bool, nat_le, ◌&&◌}
use Rattle.image_loader.specs.Files.{Contents}
use Rattle.memory.specs.Bytes.{cell, put_bytes, put_cell, limit_of}
use Rattle.memory.specs.declared.system.TheConstants.{DP}
use Rattle.machine_parts.specs.Whole.{Whole}
use Rattle.machine.specs.State.{State}

-- a word is entered: the return stack is empty, ip is 0, and the word comes next
abbrev pub entered : Whole → (word : ℕ) → Whole
entered s word = record s { returns = []; ip = 0; pending = Some word }

abbrev pub with_parts : State → Whole → State
with_parts s parts = record { parts = parts; wait = s.wait; halt = s.halt }

-- a cell is written
abbrev pub with_cell : State → (address x : ℕ) → State
with_cell s address x = with_parts s (record s.parts { memory = put_cell s.parts.memory address x })

-- bytes are written, from an address on
abbrev pub with_bytes : State → (address : ℕ) → List ℕ → State
with_bytes s address bytes = with_parts s (record s.parts { memory = put_bytes s.parts.memory address bytes })

-- HERE is a size of an image with as many buffers
unfoldable pub can_save : Whole → Bool
can_save s = nat_le 256 (cell s.memory DP) && nat_le (cell s.memory DP) (limit_of (length s.buffers))

-- memory up to HERE, as an image with as many buffers, which starts with the word at entry
abbrev pub saved : Whole → (entry : ℕ) → Contents
saved s entry = record { buffers = length s.buffers; entry = entry; bytes = take (cell s.memory DP) s.memory }
