-- A disk as which a device did: its calls came to just what they come to on that disk.
use Rattle.std.specs.Prelude.{◌≡◌, ℕ, true, false, List, [], ◌∷◌, ◌++◌, Option, Some, length}
use Rattle.block_buffers.specs.DeviceCalls.{DeviceCall, WasRead, ReadFailed, WasWritten, WriteFailed}
use Rattle.block_buffers.specs.Disks.{Disk, succeeds, block_at, called, with_block}

-- a call came to what it comes to on disk d, and leaves disk e
abbrev pub CameTo : Disk → DeviceCall → Disk → Type 0
CameTo d (WasRead block page) e = (succeeds d block ≡ true) × (page ≡ block_at d.blocks block) × (e ≡ called d)
CameTo d (ReadFailed block) e = (succeeds d block ≡ false) × (e ≡ called d)
CameTo d (WasWritten block page) e = (succeeds d block ≡ true) × (e ≡ with_block d block page)
CameTo d (WriteFailed block page) e = (succeeds d block ≡ false) × (e ≡ called d)

-- and so did these calls, one after another
unfoldable pub AllCameTo : Disk → List DeviceCall → Disk → Type 0
AllCameTo d [] e = e ≡ d
AllCameTo d (call ∷ calls) e = (m : Disk) × CameTo d call m × AllCameTo m calls e

-- a device of so many blocks did as disk d does in the calls that were made meanwhile, and is as disk e now
pub record DidAs (d e : Disk) (count : ℕ) (calls calls' : List DeviceCall) : Type 0 where
  pub count_is : count ≡ length d.blocks
  pub made : List DeviceCall
  pub calls_are : calls' ≡ calls ++ made
  pub came : AllCameTo d made e

-- a device that reported disk d did as that disk, and says which it is now
pub record IsLike (d : Disk) (new : Option Disk) (count : ℕ) (calls calls' : List DeviceCall) : Type 0 where
  pub after : Disk
  pub told : new ≡ Some after
  pub did : DidAs d after count calls calls'
