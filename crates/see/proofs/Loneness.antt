-- Cells that are apart.
use Rattle.std.proofs.Common.{ℕ, ◌<◌, ◌≤◌}
use Rattle.see.specs.PlainWords.{IsAlone}

-- all below an end are alone
abbrev pub AreAlone : (ℕ → ℕ) → ℕ → Type 0
AreAlone rt n = (i : ℕ) → 5 ≤ i → i < n → IsAlone rt i 28
