use Rattle.std.proofs.Common.{◌≡◌, ◌<◌, ◌≤◌, ◌-◌, Some}
use Rattle.block_buffers.specs.ReadPages.{AreReadFrom}
use Rattle.image_builder.specs.Sources.{done_of}
use Rattle.block_buffers.specs.Disks.{Disk}
use Rattle.block_buffers.specs.Likeness.{DidAs, IsLike}
use Rattle.image_builder.specs.ReadScreens.{Underway, IsHeld}
use Rattle.image_builder.proofs.reading.read_screens.Given as goal

abbrev pub invariant-loop-screen : goal.invariant-loop-screen
invariant-loop-screen g l = record {
  held : IsHeld l.fn.compilation.build.limit l.compilation;
  within : l.from < l.screen → l.screen ≤ l.to;
  above : l.from ≤ l.screen;
  counted : g.D.Device.block_count l.device ≡ g.D.Device.block_count l.initial.device;
  read : AreReadFrom l.from (l.screen - l.from) (g.D.Device.block_count l.initial.device) (g.D.Device.calls l.initial.device) (g.D.Device.calls l.device);
  like : (d : Disk) → g.D.Device.disk l.initial.device ≡ Some d →
      IsLike d (g.D.Device.disk l.device) (g.D.Device.block_count l.initial.device) (g.D.Device.calls l.initial.device) (g.D.Device.calls l.device);
  taken : (d e : Disk) → DidAs d e (g.D.Device.block_count l.initial.device) (g.D.Device.calls l.initial.device) (g.D.Device.calls l.device) →
      Underway l.fn.compilation.build.limit d l.from l.screen l.mode l.compilation (done_of (Some e) (g.D.Device.calls l.initial.device) (g.D.Device.calls l.device));
}
