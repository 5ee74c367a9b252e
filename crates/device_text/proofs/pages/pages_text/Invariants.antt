use Rattle.std.proofs.Common.{◌≡◌, ◌+◌, ◌-◌, Some}
use Rattle.block_buffers.specs.Calls.{KeepsBlocks}
use Rattle.block_buffers.specs.Disks.{Disk}
use Rattle.block_buffers.specs.Likeness.{DidAs, IsLike}
use Rattle.device_text.specs.Pages.{IsTextOfRead}
use Rattle.device_text.proofs.Progress.{Underway}
use Rattle.device_text.proofs.pages.pages_text.Given as goal

abbrev pub invariant-loop-index : goal.invariant-loop-index
invariant-loop-index g l = record {
  counted : g.D.Device.block_count l.device ≡ g.D.Device.block_count l.initial.device;
  read : IsTextOfRead l.from l.index (g.D.Device.block_count l.initial.device) l.text.items (g.D.Device.calls l.initial.device) (g.D.Device.calls l.device);
  taken : (d e : Disk) → DidAs d e (g.D.Device.block_count l.initial.device) (g.D.Device.calls l.initial.device) (g.D.Device.calls l.device)
      → Underway d l.from (l.to + 1 - l.from) l.index l.text.items (Some e);
  like : (d : Disk) → g.D.Device.disk l.initial.device ≡ Some d →
      IsLike d (g.D.Device.disk l.device) (g.D.Device.block_count l.initial.device) (g.D.Device.calls l.initial.device) (g.D.Device.calls l.device);
  kept : KeepsBlocks (g.D.Device.disk l.initial.device) (g.D.Device.disk l.device);
}
