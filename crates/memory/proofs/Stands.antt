-- Bytes that are at a place, and writes among them, after them and below them.
use Rattle.std.proofs.Common.{◌≡◌, ℕ, ◌+◌, ◌<◌, ◌%◌, ◌/◌, ◌++◌, ◌∷◌, List, [], length, refl, arith, sym, subst, ◌∙◌, append_assoc, append-nil, length-append, length-set, slice_set}
use Rattle.std.proofs.lemmas.List.{set_at, set-append_left}
use Rattle.cells.specs.Cell.{wrap}
use Rattle.memory.specs.Bytes.{put_byte, put_cell, put_bytes, cell_bytes}
use Rattle.memory.proofs.Kept.{wrap_small, length_byte}
use Rattle.memory.proofs.Same.{Stands}

-- one byte within
pub put_within : (m front back : List ℕ) (at i y x : ℕ) → i ≡ at + length front → Stands m at (front ++ (y ∷ back)) → Stands (put_byte m i x) at (front ++ (x ∷ back))
unfolding put_byte
put_within m front back at i y x e s = record {
  before = s.before;
  after = s.after;
  is = rw (s.is, append_assoc, append_assoc) (rw (sym (append_assoc s.before front (y ∷ (back ++ s.after)))) (set_at (s.before ++ front) y (back ++ s.after) x i (rw (length-append s.before front, s.place, e) refl) ∙ append_assoc s.before front (x ∷ (back ++ s.after))));
  place = s.place;
}

-- a cell within
pub patch : (m front back : List ℕ) (at i y x : ℕ) → i ≡ at + length front → i + 1 < 65536 → Stands m at (front ++ (cell_bytes y ++ back)) → Stands (put_cell m i x) at (front ++ (cell_bytes x ++ back))
unfolding put_cell cell_bytes
patch m front back at i y x e h s =
    let one : Stands (put_byte m i (x % 256)) at (front ++ (x % 256 ∷ (y / 256 ∷ back))) = put_within m front (y / 256 ∷ back) at i (y % 256) (x % 256) e s in
    let two : Stands (put_byte m i (x % 256)) at ((front ++ (x % 256 ∷ [])) ++ (y / 256 ∷ back)) = rw (append_assoc front (x % 256 ∷ []) (y / 256 ∷ back)) one in
    let j : wrap (i + 1) ≡ at + length (front ++ (x % 256 ∷ [])) = rw (wrap_small (i + 1) h, length-append front (x % 256 ∷ []), e) (omega arith) in
    let three : Stands (put_byte (put_byte m i (x % 256)) (wrap (i + 1)) (x / 256)) at ((front ++ (x % 256 ∷ [])) ++ (x / 256 ∷ back)) = put_within (put_byte m i (x % 256)) (front ++ (x % 256 ∷ [])) back at (wrap (i + 1)) (y / 256) (x / 256) j two in
    subst (λ (bs : List ℕ). Stands (put_byte (put_byte m i (x % 256)) (wrap (i + 1)) (x / 256)) at bs) (append_assoc front (x % 256 ∷ []) (x / 256 ∷ back)) three

-- one byte after
lay_one : (m bs before after : List ℕ) (at n c : ℕ) → m ≡ before ++ (bs ++ after) → length before ≡ at → length m ≡ 65536 → n ≡ at + length bs → n < 65536 → Stands (put_byte m n c) at (bs ++ (c ∷ []))
lay_one m bs before [] at n c e p l q h =
    let k : length m ≡ length before + (length bs + 0) = rw (e, length-append before (bs ++ []), length-append bs []) refl in
    absurd (omega arith)
lay_one m bs before (a ∷ after) at n c e p l q h =
    put_within m bs [] at n a c q (record { before = before; after = after; is = rw (e, append_assoc bs (a ∷ []) after) refl; place = p })

-- bytes after
pub lay : (m bs cs : List ℕ) (at n : ℕ) → length m ≡ 65536 → n ≡ at + length bs → n + length cs < 65536 → Stands m at bs → Stands (put_bytes m n cs) at (bs ++ cs)
unfolding put_bytes
lay m bs [] at n l q h s = rw (append-nil bs) s
lay m bs (c ∷ cs) at n l q h s =
    let one : Stands (put_byte m n c) at (bs ++ (c ∷ [])) = lay_one m bs s.before s.after at n c s.is s.place l q (omega arith) in
    let k : wrap (n + 1) ≡ at + length (bs ++ (c ∷ [])) = rw (wrap_small (n + 1) (omega arith), length-append bs (c ∷ []), q) (omega arith) in
    let rest : Stands (put_bytes (put_byte m n c) (wrap (n + 1)) cs) at ((bs ++ (c ∷ [])) ++ cs) = lay (put_byte m n c) (bs ++ (c ∷ [])) cs at (wrap (n + 1)) (length_byte m n c ∙ l) k (rw (wrap_small (n + 1) (omega arith)) (omega arith)) one in
    subst (λ (xs : List ℕ). Stands (put_bytes (put_byte m n c) (wrap (n + 1)) cs) at xs) (append_assoc bs (c ∷ []) cs) rest

-- a byte below
pub below : (m bs : List ℕ) (at i x : ℕ) → i < at → Stands m at bs → Stands (put_byte m i x) at bs
unfolding put_byte
below m bs at i x h s = record {
  before = slice_set s.before i x;
  after = s.after;
  is = rw s.is (set-append_left s.before (bs ++ s.after) i x (rw s.place h));
  place = length-set s.before i x ∙ s.place;
}

-- a cell below
pub cell_below : (m bs : List ℕ) (at i x : ℕ) → i + 1 < at → i + 1 < 65536 → Stands m at bs → Stands (put_cell m i x) at bs
unfolding put_cell
cell_below m bs at i x h k s = below (put_byte m i (x % 256)) bs at (wrap (i + 1)) (x / 256) (rw (wrap_small (i + 1) k) h) (below m bs at i (x % 256) (omega arith) s)
