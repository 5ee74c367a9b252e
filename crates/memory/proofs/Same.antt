-- Bytes that are the same in two memories, and bytes that are in one.
use Rattle.std.proofs.Common.{◌≡◌, ℕ, ◌+◌, ◌<◌, ◌≤◌, ◌++◌, List, length, refl, arith, sym, subst, ◌∙◌}
use Rattle.std.specs.Prelude.{slice_index}
use Rattle.std.proofs.lemmas.List.{ext_get_or}
use Rattle.cells.specs.Cell.{wrap}
use Rattle.memory.specs.Bytes.{byte, bytes, cell}
use Rattle.memory.proofs.Ranges.{length-bytes, byte-bytes}
use Rattle.memory.proofs.Kept.{wrap_small}

-- the bytes from lo to hi - 1 are the same
abbrev pub Same : ℕ → ℕ → List ℕ → List ℕ → Type 0
Same lo hi m n = (i : ℕ) → lo ≤ i → i < hi → byte m i ≡ byte n i

-- the bytes bs are at a place
pub record Stands (m : List ℕ) (at : ℕ) (bs : List ℕ) : Type 0 where
  pub before : List ℕ
  pub after : List ℕ
  pub is : m ≡ before ++ (bs ++ after)
  pub place : length before ≡ at

pub cell_by : (m n : List ℕ) (a : ℕ) → a + 1 < 65536 → byte m a ≡ byte n a → byte m (a + 1) ≡ byte n (a + 1) → cell m a ≡ cell n a
unfolding cell
cell_by m n a l e f = rw (wrap_small (a + 1) l, e, f) refl

pub bytes_by : (m n : List ℕ) (a k : ℕ) → length m ≡ 65536 → length n ≡ 65536 → a + k ≤ 65536 → a < 65536 → ((i : ℕ) → a ≤ i → i < a + k → byte m i ≡ byte n i) → bytes m a k ≡ bytes n a k
bytes_by m n a k lm ln h g s =
    let em : length (bytes m a k) ≡ k = length-bytes m a k lm (omega arith) in
    let en : length (bytes n a k) ≡ k = length-bytes n a k ln (omega arith) in
    ext_get_or 0 (bytes m a k) (bytes n a k) (em ∙ sym en) (λ (i : ℕ) (p : i < length (bytes m a k)).
    let q : i < k = subst (λ (x : ℕ). i < x) em p in
    let b1 : slice_index (bytes m a k) i ≡ byte m (wrap (a + i)) = byte-bytes m a k i lm g (omega arith) q in
    let b2 : slice_index (bytes n a k) i ≡ byte n (wrap (a + i)) = byte-bytes n a k i ln g (omega arith) q in
    let b3 : byte m (wrap (a + i)) ≡ byte n (wrap (a + i)) = rw (wrap_small (a + i) (omega arith)) (s (a + i) (omega arith) (omega arith)) in
    b1 ∙ b3 ∙ sym b2)

pub bytes_same : (lo hi : ℕ) (m n : List ℕ) (a k : ℕ) → Same lo hi m n → hi ≤ 65536 → length m ≡ 65536 → length n ≡ 65536 → lo ≤ a → a + k ≤ hi → a < 65536 → bytes m a k ≡ bytes n a k
bytes_same lo hi m n a k s h lm ln l f g = bytes_by m n a k lm ln (omega arith) g (λ i x y. s i (omega arith) (omega arith))
