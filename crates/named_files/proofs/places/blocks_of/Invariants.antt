use Rattle.std.proofs.Common.{◌≡◌}
use Rattle.block_buffers.specs.Calls.{KeepsBlocks}
use Rattle.block_buffers.specs.ReadPages.{AreReadFrom}
use Rattle.named_files.specs.Trying.{OnlyReads}
use Rattle.named_files.proofs.places.blocks_of.Given as goal

-- the first blocks were read
abbrev pub invariant-loop-number : goal.invariant-loop-number
invariant-loop-number g l = record {
  kept : KeepsBlocks (g.D.Device.disk l.initial.device) (g.D.Device.disk l.device);
  counted : g.D.Device.block_count l.device ≡ g.D.Device.block_count l.initial.device;
  read : AreReadFrom 0 l.number (g.D.Device.block_count l.initial.device) (g.D.Device.calls l.initial.device) (g.D.Device.calls l.device);
  only_reads : OnlyReads (g.D.Device.calls l.initial.device) (g.D.Device.calls l.device);
}
