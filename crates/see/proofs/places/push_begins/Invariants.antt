use Rattle.std.proofs.Common.{◌≡◌, ◌+◌, ℕ, List, [], ◌++◌, map}
use Rattle.std.specs.Prelude.{vec_len, vec_capacity}
use Rattle.see.specs.Parts.{token_in}
use Rattle.see.specs.Places.{opened}
use Rattle.see.proofs.places.push_begins.Given as goal

abbrev pub invariant-loop : goal.invariant-loop
invariant-loop l =
    ((bytes : List ℕ) → map (token_in bytes) l.words.items ≡ map (token_in bytes) l.initial.words.items ++ opened l.counter [])
    × (vec_len l.words ≡ vec_len l.initial.words + l.counter) × (vec_capacity l.words ≡ vec_capacity l.initial.words)
