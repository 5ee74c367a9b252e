use Rattle.std.proofs.Common.{◌≡◌, ℕ, ◌<◌, ◌+◌, get_or}
use Rattle.lessons.specs.Sealing.{kept, seal}
use Rattle.lessons.proofs.sealing.are_seals.Given as goal

abbrev pub invariant-loop-index : goal.invariant-loop-index
invariant-loop-index l = (k : ℕ) → k < l.index → get_or l.wanted k 0 ≡ seal (get_or l.left k 0) (kept (k + 1))
