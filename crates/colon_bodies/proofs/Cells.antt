-- Cells in lists of bytes.
use Rattle.std.proofs.Common.{◌≡◌, ℕ, ◌+◌, ◌/◌, ◌%◌, List, [], ◌∷◌, ◌++◌, length, refl, sym, ap, ◌∙◌, arith, append_assoc, length-append}
use Rattle.std.specs.Prelude.{slice_set}
use Rattle.std.proofs.Math.Seq.{set-append_seam}
use Rattle.memory.specs.Bytes.{cell_bytes}

pub length-cell : (x : ℕ) → length (cell_bytes x) ≡ 2
unfolding cell_bytes
length-cell x = refl

two_writes : (front back : List ℕ) (a b c d p : ℕ) → length front ≡ p → slice_set (slice_set (front ++ (a ∷ b ∷ back)) p c) (p + 1) d ≡ front ++ (c ∷ d ∷ back)
two_writes front back a b c d p e =
    let n : p + 1 ≡ length (front ++ c ∷ []) = omega (arith, length-append front (c ∷ [])) in
    ap (λ q. slice_set (slice_set (front ++ (a ∷ b ∷ back)) q c) (p + 1) d) (sym e)
    ∙ ap (λ l. slice_set l (p + 1) d) (set-append_seam front a (b ∷ back) c ∙ sym (append_assoc front (c ∷ []) (b ∷ back)))
    ∙ ap (λ q. slice_set ((front ++ c ∷ []) ++ (b ∷ back)) q d) n
    ∙ set-append_seam (front ++ c ∷ []) b back d
    ∙ append_assoc front (c ∷ []) (d ∷ back)

pub patched : (image front back : List ℕ) (x y p : ℕ) → image ≡ front ++ (cell_bytes y ++ back) → length front ≡ p → slice_set (slice_set image p (x % 256)) (p + 1) (x / 256) ≡ front ++ (cell_bytes x ++ back)
unfolding cell_bytes
patched image front back x y p e n = grind (arith, two_writes)
