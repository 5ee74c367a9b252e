use Rattle.std.proofs.Common.{◌≡◌, drop}
use Rattle.block_buffers.specs.Tests.{slots_differ}
use Rattle.block_buffers.proofs.entries.slots_differ.Given as goal

abbrev pub invariant-loop-place : goal.invariant-loop-place
invariant-loop-place l = slots_differ l.entries ≡ slots_differ (drop l.place l.entries)
