-- The words of plain definitions.
use Rattle.std.specs.Prelude.{ℕ, List, [], ◌∷◌, ◌≢◌, ◌<◌}
use Rattle.colon_bodies.specs.Tokens.{Token, NAME, DOUBLE, TICK, FORCE}
use Rattle.colon_bodies.specs.Plain.{IsPlainCell}
use Rattle.colon_bodies.specs.Rules.{half_after}
use Rattle.colon_bodies.specs.declared.words.Half.{Half}
use Rattle.colon_bodies.specs.declared.words.Half.TheVariants.{Free}

-- the words of a plain definition: no FORCE, no TICK, no DOUBLE, and a name that isn't after COMPILE is of a plain cell
abbrev pub IsPlainWord : (ℕ → ℕ) → Half → Token → Type 0
IsPlainWord rt Free (NAME w) = IsPlainCell rt w
IsPlainWord rt h (DOUBLE n) = ⊥
IsPlainWord rt h TICK = ⊥
IsPlainWord rt h FORCE = ⊥
IsPlainWord rt h _ = Unit {0}

abbrev pub ArePlainWords : (ℕ → ℕ) → Half → List Token → Type 0
ArePlainWords rt h [] = Unit {0}
ArePlainWords rt h (w ∷ ws) = IsPlainWord rt h w × ArePlainWords rt (half_after h w) ws

-- no cell above, below an end, is equal to this one
abbrev pub IsAlone : (ℕ → ℕ) → ℕ → ℕ → Type 0
IsAlone rt i n = (j : ℕ) → i < j → j < n → rt i ≢ 0 → rt i ≢ rt j
