-- Blocks that are read before a load is tried on them.
use Rattle.std.specs.Prelude.{◌≡◌, List, ◌++◌, All}
use Rattle.block_buffers.specs.DeviceCalls.{DeviceCall, ReadFailed, WasRead, WasWritten, WriteFailed}

abbrev pub IsRead : DeviceCall → Type 0
IsRead (WasRead block page) = Unit {0}
IsRead (ReadFailed block) = Unit {0}
IsRead (WasWritten block page) = ⊥
IsRead (WriteFailed block page) = ⊥

-- blocks were read, or could not be, and no other call was made
pub record OnlyReads (calls calls' : List DeviceCall) : Type 0 where
  pub reads : List DeviceCall
  pub all : All IsRead reads
  pub appended : calls' ≡ calls ++ reads
