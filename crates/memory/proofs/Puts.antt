use Rattle.std.proofs.Common.{◌≡◌, ℕ, ◌+◌, ◌<◌, ◌≤◌, ◌++◌, List, [], ◌∷◌, length, drop, get_or, refl, arith, sym}
use Rattle.std.proofs.lemmas.List.{drop_more, drop_all}
use Rattle.memory.specs.Bytes.{put_byte, put_bytes, put_cell, cell_bytes}
use Rattle.cells.specs.Cell.{wrap}

pub put_bytes_none : (m : List ℕ) (a i : ℕ) (bs : List ℕ) → length bs ≤ i → put_bytes m a (drop i bs) ≡ m
unfolding put_bytes
put_bytes_none m a i bs h = rw (drop_all i bs h) refl

pub put_bytes_more : (m : List ℕ) (a i : ℕ) (bs : List ℕ) (d : ℕ) → i < length bs → put_bytes m a (drop i bs) ≡ put_bytes (put_byte m a (get_or bs i d)) (wrap (a + 1)) (drop (i + 1) bs)
unfolding put_bytes
put_bytes_more m a i bs d h = rw (drop_more bs i d h) refl

-- two pieces: the second goes where the first ends
pub put_bytes-append : (m : List ℕ) (a n : ℕ) (bs cs : List ℕ) → n ≡ wrap (a + length bs) → a < 65536 → put_bytes m a (bs ++ cs) ≡ put_bytes (put_bytes m a bs) n cs
unfolding put_bytes
put_bytes-append m a n [] cs e h = let k : n ≡ a = omega arith in rw k refl
put_bytes-append m a n (b ∷ bs) cs e h = put_bytes-append (put_byte m a b) (wrap (a + 1)) n bs cs (omega arith) (omega arith)

-- the same, for code that writes piece after piece
pub put_bytes_on : (m : List ℕ) (a n : ℕ) (bs cs : List ℕ) → a < 65536 → n ≡ wrap (a + length bs) → put_bytes (put_bytes m a bs) n cs ≡ put_bytes m a (bs ++ cs)
put_bytes_on m a n bs cs h e = sym (put_bytes-append m a n bs cs e h)

pub ruleset puts = (put_bytes_none, put_bytes_more)
