-- Bytes that are at a place: their parts, and what is read of them.
use Rattle.std.proofs.Common.{◌≡◌, ℕ, ◌+◌, ◌<◌, ◌%◌, ◌/◌, List, ◌∷◌, ◌++◌, length, subst, arith, append_assoc, length-append}
use Rattle.std.proofs.Math.Seq.{drop-append_seam, take-append_seam}
use Rattle.memory.specs.Bytes.{byte, bytes, cell, cell_bytes}
use Rattle.memory.proofs.Same.{Stands}
use Rattle.memory.proofs.Both.{stands_has}
use Rattle.memory.proofs.Kept.{wrap_small}

-- the bytes after the first
pub stands_behind : (m xs ys : List ℕ) (at n : ℕ) → n ≡ at + length xs → Stands m at (xs ++ ys) → Stands m n ys
stands_behind m xs ys at n e s =
    record {
      before = s.before ++ xs;
      after = s.after;
      is = grind (arith, append_assoc);
      place = grind (arith, length-append);
    }

-- the first bytes
pub stands_before : (m xs ys : List ℕ) (at : ℕ) → Stands m at (xs ++ ys) → Stands m at xs
stands_before m xs ys at s = grind (arith, append_assoc)

pub stands_byte : (m : List ℕ) (at b : ℕ) (bs : List ℕ) → Stands m at (b ∷ bs) → byte m at ≡ b
stands_byte m at b bs s =
    let e : at + 0 ≡ at = omega arith in
    subst (λ i. byte m i ≡ b) e (stands_has m at 0 (b ∷ bs) s (omega arith))

pub stands_cell : (m : List ℕ) (at x : ℕ) (bs : List ℕ) → at + 1 < 65536 → Stands m at (cell_bytes x ++ bs) → cell m at ≡ x
unfolding cell cell_bytes
stands_cell m at x bs h s = grind (arith, wrap_small, stands_byte m at (x % 256) (x / 256 ∷ bs) s, stands_has m at 1 (x % 256 ∷ x / 256 ∷ bs) s (omega arith))

pub stands_bytes : (m : List ℕ) (at : ℕ) (bs : List ℕ) → Stands m at bs → bytes m at (length bs) ≡ bs
unfolding bytes
stands_bytes m at bs s = grind (arith, drop-append_seam, append_assoc, take-append_seam)
