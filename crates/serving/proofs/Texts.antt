-- Texts that don't fit in their room.
use Rattle.std.proofs.Common.{◌≡◌, ℕ, ◌+◌, ◌<◌, List, [], Some, length, arith, ap, ◌∙◌}
use Rattle.std.proofs.lemmas.List.{length-append}
use Rattle.inner_interpreter.specs.Sent.{AppendsPart}

-- the room was filled, and more came
pub too_long : (bytes old new : List ℕ) → old ≡ [] → length new ≡ 1245184 → AppendsPart (Some old) (Some new) bytes → 1245184 < length bytes
too_long bytes old new e f h =
    let n : length bytes ≡ length h.0 + length h.1 = ap length h.2 ∙ length-append h.0 h.1 in
    let m : length new ≡ length old + length h.0 = ap length h.3 ∙ length-append old h.0 in
    let z : length old ≡ 0 = ap length e in
    omega (arith, n, m, z, f, h.4)
