-- What a call does to a device.
use Rattle.std.specs.Prelude.{◌≡◌, ℕ, Bool, true, false, List, Option, Some, Result, Ok, Err, IfSome, IsSomeAnd, count_by}
use Rattle.block_buffers.specs.declared.devices.DeviceFault.{DeviceFault}
use Rattle.block_buffers.specs.DeviceCalls.{DeviceCall, WasRead, ReadFailed, WasWritten, WriteFailed}
use Rattle.block_buffers.specs.Disks.{Disk, succeeds, block_at, called, with_block}

-- what a read is noted as: with the page that it gave
abbrev pub read_call : (block : ℕ) → (page : List ℕ) → Result Unit DeviceFault → DeviceCall
read_call block page (Ok _) = WasRead block page
read_call block page (Err _) = ReadFailed block

-- what a write is noted as: with the page that it was handed
abbrev pub write_call : (block : ℕ) → (page : List ℕ) → Result Unit DeviceFault → DeviceCall
write_call block page (Ok _) = WasWritten block page
write_call block page (Err _) = WriteFailed block page

-- a call that failed
abbrev pub has_failed : DeviceCall → Bool
has_failed (WasRead block page) = false
has_failed (ReadFailed block) = true
has_failed (WasWritten block page) = false
has_failed (WriteFailed block page) = true

-- how many calls failed
unfoldable pub failures : List DeviceCall → ℕ
failures calls = count_by has_failed calls

-- a read that succeeds gives the block's bytes; no read changes a block
abbrev pub Reads : Disk → ℕ → Option Disk → List ℕ → Result Unit DeviceFault → Type 0
Reads disk block new page (Ok _) =
    (succeeds disk block ≡ true) × (new ≡ Some (called disk)) × (page ≡ block_at disk.blocks block)
Reads disk block new page (Err _) = (succeeds disk block ≡ false) × (new ≡ Some (called disk))

-- a write that succeeds changes its block alone, to the bytes handed in; one that fails changes none
abbrev pub Writes : Disk → ℕ → List ℕ → Option Disk → Result Unit DeviceFault → Type 0
Writes disk block page new (Ok _) = (succeeds disk block ≡ true) × (new ≡ Some (with_block disk block page))
Writes disk block page new (Err _) = (succeeds disk block ≡ false) × (new ≡ Some (called disk))

-- if the blocks are reported, they are the same after
abbrev pub KeepsBlocks : Option Disk → Option Disk → Type 0
KeepsBlocks old new = IfSome old (λ d. IsSomeAnd new (λ e. e.blocks ≡ d.blocks))
