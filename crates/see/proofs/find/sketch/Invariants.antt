use Rattle.std.proofs.Common.{◌≡◌, ◌+◌, ◌-◌, ◌≤◌, Some, map, length, drop}
use Rattle.std.specs.List.{sum}
use Rattle.std.specs.Prelude.{slice_index, vec_len, vec_capacity}
use Rattle.colon_bodies.specs.Tree.{Definition}
use Rattle.colon_bodies.specs.Found.{found}
use Rattle.see.specs.Parts.{token_in}
use Rattle.see.proofs.Turning.{Going}
use Rattle.see.proofs.find.sketch.Given as goal

abbrev pub invariant-loop-next : goal.invariant-loop-next
invariant-loop-next l =
    (l.here + length l.left ≡ l.at + length l.bytes) × (l.left ≡ drop (l.here - l.at) l.bytes) × (length l.begins ≡ length l.bytes)
    × (vec_capacity l.words ≡ vec_capacity l.initial.words) × (vec_capacity l.frames ≡ vec_capacity l.initial.frames)
    × (vec_len l.words + vec_len l.frames + sum l.begins + length l.left ≤ length l.bytes)
    × ((t : Definition) → found (slice_index l.runtime) l.bytes l.at ≡ Some t → Going (slice_index l.runtime) t l.at l.left l.here (map (token_in l.bytes) l.words.items) l.begins l.frames.items)

abbrev pub decreases-loop-next : goal.decreases-loop-next
decreases-loop-next l = length l.left
