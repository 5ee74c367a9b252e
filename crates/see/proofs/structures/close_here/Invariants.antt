use Rattle.std.proofs.Common.{◌≡◌, ◌+◌, ℕ, List, map}
use Rattle.std.specs.Prelude.{vec_len, vec_capacity}
use Rattle.colon_bodies.specs.Tree.{Body}
use Rattle.see.specs.Parts.{token_in}
use Rattle.colon_bodies.specs.Structures.{Frames, In, shut}
use Rattle.see.specs.Seen.{Seen}
use Rattle.see.proofs.Growing.{Shuts}
use Rattle.see.proofs.structures.close_here.Given as goal

abbrev pub invariant-loop-frames : goal.invariant-loop-frames
invariant-loop-frames l =
    ((bytes : List ℕ) (at : ℕ) (begins : List ℕ) (f g : Frames) (c d : Body) → Seen at f c l.here (map (token_in bytes) l.initial.words.items) begins l.initial.frames.items → shut f c l.here ≡ In g d → Shuts at g d l.here (map (token_in bytes) l.words.items) begins l.frames.items)
    × (vec_len l.words + vec_len l.frames ≡ vec_len l.initial.words + vec_len l.initial.frames)
    × (vec_capacity l.words ≡ vec_capacity l.initial.words) × (vec_capacity l.frames ≡ vec_capacity l.initial.frames)

abbrev pub decreases-loop-frames : goal.decreases-loop-frames
decreases-loop-frames l = vec_len l.frames
