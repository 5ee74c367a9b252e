use Rattle.memory.specs.Mirrored.{stored}
use Rattle.std.proofs.Common.{◌≡◌}
use Rattle.std.specs.Prelude.{vec_len, vec_capacity}
use Rattle.see.specs.Extent.{first_controls}
use Rattle.see.proofs.extent.list_controls.Given as goal

abbrev pub invariant-loop-k : goal.invariant-loop-k
invariant-loop-k l = (l.controls.items ≡ first_controls (stored l.memory) l.k) × (vec_len l.controls ≡ l.k) × (vec_capacity l.controls ≡ vec_capacity l.initial.controls)
