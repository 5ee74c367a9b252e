use Rattle.std.proofs.Common.{◌≡◌, ◌+◌, ◌≤◌, ◌++◌, length, map, drop}
use Rattle.std.specs.List.{sum}
use Rattle.std.specs.Prelude.{vec_len, vec_capacity}
use Rattle.see.specs.Parts.{token_in}
use Rattle.see.proofs.Sketching.{filled}
use Rattle.see.proofs.places.with_begins.Given as goal

abbrev pub invariant-loop-word : goal.invariant-loop-word
invariant-loop-word l =
    (map (token_in l.bytes) l.whole.items ++ filled l.left (map (token_in l.bytes) (drop l.word-index l.words)) ≡ filled l.begins (map (token_in l.bytes) l.words))
    × (vec_len l.whole + length (drop l.word-index l.words) + sum l.left ≤ length l.words + sum l.begins) × (vec_capacity l.whole ≡ vec_capacity l.initial.whole)
