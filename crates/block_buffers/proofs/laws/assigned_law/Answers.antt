use Rattle.std.proofs.Common.{refl}
use Rattle.block_buffers.specs.Entries.{assigned, entry_at}
use Rattle.block_buffers.proofs.Blocks.{holds_assigned, slot_assigned}
use Rattle.block_buffers.proofs.laws.assigned_law.Goals as goal

pub returns-clause-held : goal.returns-clause-held
returns-clause-held c = λ b u. holds_assigned u b

pub returns-clause-slot : goal.returns-clause-slot
returns-clause-slot c = λ b u. slot_assigned u b

pub returns-clause-front : goal.returns-clause-front
unfolding assigned entry_at
returns-clause-front c = λ b u. refl
