-- The same write in two memories, and what was written.
use Rattle.std.proofs.Common.{◌≡◌, ◌≢◌, ℕ, zero, suc, ◌+◌, ◌<◌, ◌%◌, ◌/◌, ◌++◌, ◌∷◌, List, [], length, refl, arith, sym, ◌∙◌, Bool, true, false}
use Rattle.std.specs.Prelude.{◌==◌, slice_index}
use Rattle.std.proofs.lemmas.List.{get_or-append-add, get_or_append_left}
use Rattle.memory.specs.Bytes.{byte, put_byte, put_cell, put_bytes}
use Rattle.memory.proofs.Kept.{wrap_small, byte_set, byte_here, length_byte, byte_below}
use Rattle.memory.proofs.Same.{Stands}

is_same : (x y : ℕ) → (x == y) ≡ true → x ≡ y
is_same x y h = grind arith

is_other : (x y : ℕ) → (x == y) ≡ false → x ≢ y
is_other x y h = grind arith

both_step : (m n : List ℕ) (i x j : ℕ) (b : Bool) → (j == i) ≡ b → i < length m → i < length n → byte m j ≡ byte n j → byte (put_byte m i x) j ≡ byte (put_byte n i x) j
both_step m n i x j true e l k h = rw (is_same j i e) (byte_here m i x l ∙ sym (byte_here n i x k))
both_step m n i x j false e l k h = byte_set m i x j (is_other j i e) ∙ h ∙ sym (byte_set n i x j (is_other j i e))

pub byte_both : (m n : List ℕ) (i x j : ℕ) → length m ≡ 65536 → length n ≡ 65536 → i < 65536 → byte m j ≡ byte n j → byte (put_byte m i x) j ≡ byte (put_byte n i x) j
byte_both m n i x j l k g h = both_step m n i x j (j == i) refl (omega arith) (omega arith) h

pub cell_both : (m n : List ℕ) (i x j : ℕ) → length m ≡ 65536 → length n ≡ 65536 → i + 1 < 65536 → byte m j ≡ byte n j → byte (put_cell m i x) j ≡ byte (put_cell n i x) j
unfolding put_cell
cell_both m n i x j l k g h = rw (wrap_small (i + 1) g) (byte_both (put_byte m i (x % 256)) (put_byte n i (x % 256)) (i + 1) (x / 256) j (length_byte m i (x % 256) ∙ l) (length_byte n i (x % 256) ∙ k) g (byte_both m n i (x % 256) j l k (omega arith) h))

-- a place holds what was written to it
pub laid_has : (m : List ℕ) (a i : ℕ) (bs : List ℕ) → length m ≡ 65536 → a + length bs < 65536 → i < length bs → byte (put_bytes m a bs) (a + i) ≡ slice_index bs i
unfolding put_bytes
laid_has m a i [] l g h = absurd (omega arith)
laid_has m a zero (b ∷ bs) l g h =
    let e : a + 0 ≡ a = omega arith in
    rw (e, wrap_small (a + 1) (omega arith)) (byte_below (put_byte m a b) (a + 1) bs a (omega arith) (omega arith) ∙ byte_here m a b (omega arith))
laid_has m a (suc i) (b ∷ bs) l g h =
    let e : a + suc i ≡ a + 1 + i = omega arith in
    rw (e, wrap_small (a + 1) (omega arith)) (laid_has (put_byte m a b) (a + 1) i bs (length_byte m a b ∙ l) (omega arith) (omega arith))

pub stands_has : (m : List ℕ) (a i : ℕ) (bs : List ℕ) → Stands m a bs → i < length bs → byte m (a + i) ≡ slice_index bs i
unfolding byte
stands_has m a i bs s h =
    rw (s.is, sym s.place) (get_or-append-add s.before (bs ++ s.after) i 0 ∙ get_or_append_left bs s.after 0 i h)
