use Rattle.std.proofs.Common.{◌≡◌, ℕ, ◌+◌, ◌<◌, List, [], ◌∷◌, ◌++◌, length, length-append, append_assoc, refl, ap, arith, ◌∙◌}
use Rattle.cells.specs.Cell.{wrap}
use Rattle.memory.specs.Bytes.{put_byte, put_cell, put_bytes, cell_bytes}
use Rattle.memory.proofs.Puts.{put_bytes_on}
use Rattle.dictionary.specs.Adding.{header_bytes}

pub length-cell_bytes : (x : ℕ) → length (cell_bytes x) ≡ 2
unfolding cell_bytes
length-cell_bytes x = refl

pub length_header : (v k c x : ℕ) (name extra : List ℕ) → length (header_bytes v k c name x extra) ≡ 7 + length name + length extra
unfolding header_bytes
length_header v k c x name extra = grind (arith, length-append, length-cell_bytes)

-- one more piece after what was put
then_put : (m : List ℕ) (a n : ℕ) (bs cs : List ℕ) (before : List ℕ) → before ≡ put_bytes m a bs → a < 65536 → n ≡ wrap (a + length bs)
    → put_bytes before n cs ≡ put_bytes m a (bs ++ cs)
then_put m a n bs cs before b h e = rw b (put_bytes_on m a n bs cs h e)

cell_put : (m : List ℕ) (a x : ℕ) → put_cell m a x ≡ put_bytes m a (cell_bytes x)
unfolding put_cell put_bytes cell_bytes
cell_put m a x = refl

byte_put : (m : List ℕ) (a b : ℕ) → put_byte m a b ≡ put_bytes m a (b ∷ [])
unfolding put_bytes
byte_put m a b = refl

-- the pieces of a header, written one after the other
pub put_header : (m : List ℕ) (a v k c x a2 a4 a5 a6 a7 : ℕ) (name extra : List ℕ) → a < 65536
    → a2 ≡ wrap (a + 2) → a4 ≡ wrap (a + 4) → a5 ≡ wrap (a + 5) → a6 ≡ wrap (a + (5 + length name)) → a7 ≡ wrap (a6 + 2)
    → put_bytes (put_cell (put_bytes (put_byte (put_cell (put_cell m a v) a2 k) a4 c) a5 name) a6 x) a7 extra
    ≡ put_bytes m a (header_bytes v k c name x extra)
unfolding header_bytes
put_header m a v k c x a2 a4 a5 a6 a7 name extra h e2 e4 e5 e6 e7 =
    let lv = length-cell_bytes v in
    let lk = length-cell_bytes k in
    let lx = length-cell_bytes x in
    let n2 : length (cell_bytes v ++ cell_bytes k) ≡ 4 = omega (arith, length-append (cell_bytes v) (cell_bytes k)) in
    let n3 : length (cell_bytes v ++ cell_bytes k ++ (c ∷ [])) ≡ 5 = omega (arith, length-append (cell_bytes v ++ cell_bytes k) (c ∷ [])) in
    let n4 : length (cell_bytes v ++ cell_bytes k ++ (c ∷ []) ++ name) ≡ 5 + length name = omega (arith, length-append (cell_bytes v ++ cell_bytes k ++ (c ∷ [])) name) in
    let n5 : length (cell_bytes v ++ cell_bytes k ++ (c ∷ []) ++ name ++ cell_bytes x) ≡ 7 + length name = omega (arith, length-append (cell_bytes v ++ cell_bytes k ++ (c ∷ []) ++ name) (cell_bytes x)) in
    let p1 = cell_put m a v in
    let p2 = cell_put (put_cell m a v) a2 k ∙ then_put m a a2 (cell_bytes v) (cell_bytes k) (put_cell m a v) p1 h (omega arith) in
    let p3 = byte_put (put_cell (put_cell m a v) a2 k) a4 c ∙ then_put m a a4 (cell_bytes v ++ cell_bytes k) (c ∷ []) (put_cell (put_cell m a v) a2 k) p2 h (omega arith) in
    let p4 = then_put m a a5 (cell_bytes v ++ cell_bytes k ++ (c ∷ [])) name (put_byte (put_cell (put_cell m a v) a2 k) a4 c) p3 h (omega arith) in
    let p5 = cell_put (put_bytes (put_byte (put_cell (put_cell m a v) a2 k) a4 c) a5 name) a6 x
    ∙ then_put m a a6 (cell_bytes v ++ cell_bytes k ++ (c ∷ []) ++ name) (cell_bytes x) (put_bytes (put_byte (put_cell (put_cell m a v) a2 k) a4 c) a5 name) p4 h (omega arith) in
    let flat : cell_bytes v ++ cell_bytes k ++ (c ∷ []) ++ name ++ cell_bytes x ++ extra ≡ cell_bytes v ++ (cell_bytes k ++ (c ∷ (name ++ (cell_bytes x ++ extra)))) = simp append_assoc in
    then_put m a a7 (cell_bytes v ++ cell_bytes k ++ (c ∷ []) ++ name ++ cell_bytes x) extra
    (put_cell (put_bytes (put_byte (put_cell (put_cell m a v) a2 k) a4 c) a5 name) a6 x) p5 h (omega arith)
    ∙ ap (put_bytes m a) flat
