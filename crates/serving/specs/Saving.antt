-- The updated buffers, written to the device.
use Rattle.std.specs.Prelude.{◌≡◌, ℕ, List, [], ◌∷◌, Option, Some, None, Bool, ◌&&◌, nat_lt, map, if◌then◌else◌}
use Rattle.std.specs.List.{flat_map}
use Rattle.memory.specs.Bytes.{page}
use Rattle.machine_parts.specs.Whole.{Whole}
use Rattle.block_buffers.specs.Calls.{failures}
use Rattle.block_buffers.specs.declared.entry.Entry.{Entry}
use Rattle.block_buffers.specs.Entries.{address_of}
use Rattle.block_buffers.specs.DeviceCalls.{DeviceCall, WasWritten, WriteFailed}

-- the block of a buffer that is to be written: it was updated, and a device of so many blocks has it
abbrev pub if_unsaved : (count : ℕ) → Bool → Option ℕ → Option ℕ
if_unsaved count updated None = None
if_unsaved count updated (Some u) = if updated && nat_lt u count then Some u else None

unfoldable pub unsaved : (count : ℕ) → Entry → Option ℕ
unsaved count e = if_unsaved count e.updated e.block

-- its write
abbrev pub write_if : List ℕ → Option ℕ → List DeviceCall
write_if bytes None = []
write_if bytes (Some u) = WasWritten u bytes ∷ []

abbrev pub writes_of : (count : ℕ) → Whole → Entry → List DeviceCall
writes_of count s e = write_if (page s.memory (address_of s.buffers e.slot)) (unsaved count e)

-- a call as it is if it does not fail
abbrev pub as_done : DeviceCall → DeviceCall
as_done (WriteFailed u bytes) = WasWritten u bytes
as_done call = call

-- the device was given just the writes of these buffers, in their order, and so many of them failed
pub record AreSaved (count : ℕ) (s : Whole) (entries : List Entry) (calls : List DeviceCall) (lost : ℕ) : Type 0 where
  pub writes : map as_done calls ≡ flat_map (writes_of count s) entries
  pub lost_is : lost ≡ failures calls
