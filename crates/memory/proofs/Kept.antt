-- What writes leave as it was.
use Rattle.std.proofs.Common.{◌≡◌, ◌≢◌, ℕ, ◌+◌, ◌<◌, ◌≤◌, ◌%◌, ◌/◌, ◌∷◌, ◌++◌, List, [], length, refl, arith, ◌∙◌, length-set}
use Rattle.std.proofs.lemmas.List.{get_or-set_other, get_or-set_same}
use Rattle.cells.specs.Cell.{wrap}
use Rattle.memory.specs.Bytes.{byte, cell, put_byte, put_cell, put_bytes, Write, with_write, written}

pub wrap_small : (i : ℕ) → i < 65536 → wrap i ≡ i
wrap_small i h = omega arith

pub byte_set : (m : List ℕ) (i x j : ℕ) → j ≢ i → byte (put_byte m i x) j ≡ byte m j
unfolding byte put_byte
byte_set m i x j h = get_or-set_other m i j x 0 h

pub byte_here : (m : List ℕ) (i x : ℕ) → i < length m → byte (put_byte m i x) i ≡ x
unfolding byte put_byte
byte_here m i x h = get_or-set_same m i x 0 h

pub byte_cell : (m : List ℕ) (i x j : ℕ) → i + 1 < 65536 → j ≢ i → j ≢ i + 1 → byte (put_cell m i x) j ≡ byte m j
unfolding put_cell
byte_cell m i x j l h k = rw (wrap_small (i + 1) l) (byte_set (put_byte m i (x % 256)) (i + 1) (x / 256) j k ∙ byte_set m i (x % 256) j h)

pub length_byte : (m : List ℕ) (i x : ℕ) → length (put_byte m i x) ≡ length m
unfolding put_byte
length_byte m i x = length-set m i x

pub length_cell : (m : List ℕ) (i x : ℕ) → length (put_cell m i x) ≡ length m
unfolding put_cell
length_cell m i x = length_byte (put_byte m i (x % 256)) (wrap (i + 1)) (x / 256) ∙ length_byte m i (x % 256)

pub length_bytes : (m : List ℕ) (n : ℕ) (bs : List ℕ) → length (put_bytes m n bs) ≡ length m
unfolding put_bytes
length_bytes m n [] = refl
length_bytes m n (b ∷ bs) = length_bytes (put_byte m n b) (wrap (n + 1)) bs ∙ length_byte m n b

-- a cell that was written
pub cell_here : (m : List ℕ) (i x : ℕ) → length m ≡ 65536 → i + 1 < 65536 → cell (put_cell m i x) i ≡ x
unfolding cell put_cell
cell_here m i x l h =
    let one : byte (put_byte (put_byte m i (x % 256)) (i + 1) (x / 256)) i ≡ x % 256 = byte_set (put_byte m i (x % 256)) (i + 1) (x / 256) i (omega arith) ∙ byte_here m i (x % 256) (omega arith) in
    let two : byte (put_byte (put_byte m i (x % 256)) (i + 1) (x / 256)) (i + 1) ≡ x / 256 = byte_here (put_byte m i (x % 256)) (i + 1) (x / 256) (omega (arith, length_byte m i (x % 256))) in
    rw (wrap_small (i + 1) h) (rw (one, two) (omega arith))

-- and one beside it
pub cell_beside : (m : List ℕ) (i x j : ℕ) → i + 1 < 65536 → j + 1 < 65536 → j ≢ i → j ≢ i + 1 → i ≢ j + 1 → cell (put_cell m i x) j ≡ cell m j
unfolding cell
cell_beside m i x j l n h k g = rw (wrap_small (j + 1) n) (rw (byte_cell m i x j l h k, byte_cell m i x (j + 1) l (omega arith) (omega arith)) refl)

-- bytes below what is written, and above it
pub byte_below : (m : List ℕ) (n : ℕ) (bs : List ℕ) (j : ℕ) → n + length bs < 65536 → j < n → byte (put_bytes m n bs) j ≡ byte m j
unfolding put_bytes
byte_below m n [] j l h = refl
byte_below m n (b ∷ bs) j l h = rw (wrap_small (n + 1) (omega arith)) (byte_below (put_byte m n b) (n + 1) bs j (omega arith) (omega arith) ∙ byte_set m n b j (omega arith))

pub byte_above : (m : List ℕ) (n : ℕ) (bs : List ℕ) (j : ℕ) → n + length bs < 65536 → n + length bs ≤ j → byte (put_bytes m n bs) j ≡ byte m j
unfolding put_bytes
byte_above m n [] j l h = refl
byte_above m n (b ∷ bs) j l h = rw (wrap_small (n + 1) (omega arith)) (byte_above (put_byte m n b) (n + 1) bs j (omega arith) (omega arith) ∙ byte_set m n b j (omega arith))

-- writes that come after others
pub written-append : (m : List ℕ) (vs ws : List Write) → written m (vs ++ ws) ≡ written (written m vs) ws
unfolding written
written-append m [] ws = refl
written-append m (v ∷ vs) ws = written-append (with_write m v) vs ws
