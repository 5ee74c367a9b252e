use Rattle.std.proofs.Common.{◌≡◌, ℕ, ◌+◌, ◌<◌, ◌≤◌, ◌++◌, List, length, length-drop, drop, arith, slice_index, get_or, inl, inr, ap, ◌∙◌}
use Rattle.std.proofs.lemmas.Bool.{cases_lt}
use Rattle.std.proofs.lemmas.Grind.{common_steps, elements}
use Rattle.std.proofs.lemmas.List.{get_or-take, get_or-drop}
use Rattle.std.proofs.Math.ListN.{get_or-append}
use Rattle.std.proofs.Math.Seq.{get_or-append_right}
use Rattle.memory.specs.Bytes.{byte, bytes}
use Rattle.cells.specs.Cell.{wrap}

pub length-bytes : (m : List ℕ) (a n : ℕ) → length m ≡ 65536 → n ≤ 65536 → length (bytes m a n) ≡ n
unfolding bytes
length-bytes m a n l h = grind (arith, common_steps, elements)

pub byte-bytes : (m : List ℕ) (a n i : ℕ) → length m ≡ 65536 → a < 65536 → n ≤ 65536 → i < n → slice_index (bytes m a n) i ≡ byte m (wrap (a + i))
unfolding bytes byte
byte-bytes m a n i l s h k = get_or-take n (drop a m ++ m) i 0 k ∙ elim (cases_lt (a + i) 65536) [
  | inl p ↦ get_or-append (drop a m) m 0 i (omega (arith, length-drop a m)) ∙ get_or-drop a m i 0 ∙ ap (λ (j : ℕ). get_or m j 0) (omega arith)
  | inr q ↦ get_or-append_right (drop a m) m i 0 (omega (arith, length-drop a m)) ∙ ap (λ (j : ℕ). get_or m j 0) (omega (arith, length-drop a m))
]

pub ruleset ranges = (length-bytes, byte-bytes)
