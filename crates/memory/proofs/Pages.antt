-- What stays if a page of bytes is written.
use Rattle.std.proofs.Common.{◌≡◌, ℕ, ◌+◌, ◌<◌, ◌≤◌, ◌++◌, List, length, length-append, length-drop, take, drop, arith, ◌-◌, refl, ◌∙◌}
use Rattle.std.proofs.lemmas.List.{get_or-take, length-take-le}
use Rattle.std.proofs.Math.ListN.{get_or-append}
use Rattle.memory.specs.Bytes.{byte, cell, with_page}
use Rattle.cells.specs.Cell.{wrap}

front_length : (m : List ℕ) (at : ℕ) → length m ≡ 65536 → at ≤ 64512 → length (take at m) ≡ at
front_length m at l h = length-take-le at m (omega (arith, l, h))

-- a byte below it
pub byte_below : (m bs : List ℕ) (at a : ℕ) → length m ≡ 65536 → at ≤ 64512 → a < at → byte (with_page m at bs) a ≡ byte m a
unfolding with_page byte
byte_below m bs at a l h k =
    get_or-append (take at m) (bs ++ drop (at + 1024) m) 0 a (omega (arith, front_length m at l h, k))
    ∙ get_or-take at m a 0 k

-- a cell below it
pub cell_below : (m bs : List ℕ) (at a : ℕ) → length m ≡ 65536 → at ≤ 64512 → a + 2 ≤ at → cell (with_page m at bs) a ≡ cell m a
unfolding cell
cell_below m bs at a l h k = rw (byte_below m bs at a l h (omega (arith, k)), byte_below m bs at (wrap (a + 1)) l h (omega (arith, h, k))) refl

pub length-with_page : (m bs : List ℕ) (at : ℕ) → length m ≡ 65536 → at ≤ 64512 → length bs ≡ 1024 → length (with_page m at bs) ≡ 65536
unfolding with_page
length-with_page m bs at l h k =
    let front : length (take at m) ≡ at = front_length m at l h
    in let back : length (drop (at + 1024) m) ≡ length m - (at + 1024) = length-drop (at + 1024) m
    in let all : length (take at m ++ (bs ++ drop (at + 1024) m)) ≡ length (take at m) + length (bs ++ drop (at + 1024) m) = length-append (take at m) (bs ++ drop (at + 1024) m)
    in let rest : length (bs ++ drop (at + 1024) m) ≡ length bs + length (drop (at + 1024) m) = length-append bs (drop (at + 1024) m)
    in omega (arith, front, back, all, rest, l, h, k)
