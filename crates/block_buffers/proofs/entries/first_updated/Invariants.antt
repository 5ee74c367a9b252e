use Rattle.std.proofs.Common.{◌≡◌, take}
use Rattle.std.specs.Prelude.{fold, filter}
use Rattle.block_buffers.specs.Entries.{unassigned_slot, is_updated, lower_of}
use Rattle.block_buffers.proofs.entries.first_updated.Given as goal

abbrev pub invariant-loop-entry : goal.invariant-loop-entry
invariant-loop-entry l = l.first ≡ fold lower_of (unassigned_slot 16) (filter is_updated (take l.entry-index l.entries))
