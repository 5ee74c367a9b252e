-- Which addresses a write leaves as they were, and writes that no find rests on.
use Rattle.std.proofs.Common.{◌≡◌, ◌≢◌, ℕ, zero, suc, ◌+◌, ◌-◌, ◌<◌, ◌≤◌, List, [], ◌∷◌, length, true, false, refl, arith, sym}
use Rattle.std.proofs.lemmas.Grind.{common_steps}
use Rattle.cells.specs.Cell.{wrap}
use Rattle.memory.specs.Bytes.{byte, put_byte, put_cell, put_bytes, filled, moved_up, moved_down, with_page, Write, PutCell, PutBytes}
use Rattle.memory.proofs.Kept.{byte_set}
use Rattle.memory.proofs.Pages.{byte_below}
use Rattle.name_index.specs.declared.index.NameIndex.{NameIndex}
use Rattle.name_index.specs.Ranges.{is_met}
use Rattle.name_index.specs.Watch.{is_watched, AgreeBeside, IsBeside}
use Rattle.name_index.specs.Index.{Holds}
use Rattle.name_index.proofs.Holding.{beside, holds_beside, holds_below_limit, unmet_none}

-- the first, the last and the others of n addresses
beside_first : (at n a : ℕ) → at < 65536 → 0 < n → IsBeside at n a → a ≢ at
beside_first at n a h some b = λ e. b 0 some (omega (arith, h, e))

beside_last : (at n a : ℕ) → IsBeside at (suc n) a → a ≢ wrap (at + n)
beside_last at n a b = λ e. b n (omega arith) (sym e)

beside_less : (at n a : ℕ) → IsBeside at (suc n) a → IsBeside at n a
beside_less at n a b i h = b i (omega (arith, h))

beside_rest : (at n a : ℕ) → IsBeside at (suc n) a → IsBeside (wrap (at + 1)) n a
beside_rest at n a b i h = λ e. b (suc i) (omega (arith, h)) (omega (arith, e))

-- a byte, a cell, bytes in turn
pub beside_byte : (m : List ℕ) (at x : ℕ) → at < 65536 → AgreeBeside at 1 m (put_byte m at x)
beside_byte m at x h a b = byte_set m at x a (beside_first at 1 a h (omega arith) b)

pub beside_cell : (m : List ℕ) (at x : ℕ) → at < 65536 → AgreeBeside at 2 m (put_cell m at x)
unfolding put_cell
beside_cell m at x h a b = grind (arith, byte_set, beside_last, beside_first)

pub beside_bytes : (m : List ℕ) (at : ℕ) (bs : List ℕ) → at < 65536 → AgreeBeside at (length bs) m (put_bytes m at bs)
unfolding put_bytes
beside_bytes m at [] h a b = refl
beside_bytes m at (x ∷ bs) h a b = grind (arith, beside_rest, byte_set, beside_first, beside_bytes (put_byte m at x) (wrap (at + 1)) bs (omega arith) a (beside_rest at (length bs) a b))

-- FILL, CMOVE and CMOVE>
pub beside_filled : (m : List ℕ) (at n x : ℕ) → AgreeBeside at n m (filled m at n x)
unfolding filled
beside_filled m at zero x a b = refl
beside_filled m at (suc n) x a b = grind (arith, byte_set, beside_last, beside_less, beside_filled m at n x a (beside_less at n a b))

pub beside_moved_up : (m : List ℕ) (from to n : ℕ) → AgreeBeside to n m (moved_up m from to n)
unfolding moved_up
beside_moved_up m from to zero a b = refl
beside_moved_up m from to (suc n) a b = grind (arith, byte_set, beside_last, beside_less, beside_moved_up m from to n a (beside_less to n a b))

pub beside_moved_down : (m : List ℕ) (from to n : ℕ) → AgreeBeside to n m (moved_down m from to n)
unfolding moved_down
beside_moved_down m from to zero a b = refl
beside_moved_down m from to (suc n) a b = grind (arith, beside_less, byte_set, beside_last, beside_moved_down (put_byte m (wrap (to + n)) (byte m (wrap (from + n)))) from to n a (beside_less to n a b))

-- a write below the dictionary
below_dictionary : (top start end : ℕ) → end ≤ 256 → is_met top start end ≡ false
unfolding is_met
below_dictionary top start end h = grind (arith, common_steps)

pub holds_system : (limit at n : ℕ) (index : NameIndex) (m other : List ℕ) → at + n ≤ 256 → AgreeBeside at n m other
    → Holds limit index m → Holds limit index other
holds_system limit at n index m other small s holds =
    holds_beside limit at n index m other
    (beside index.top at n (omega (arith, small)) (omega (arith, small)) (below_dictionary index.top at (at + n) small)
    (unmet_none index.top (at + n - 65536) (omega (arith, small)))) s holds

pub holds_system_cell : (limit at x : ℕ) (index : NameIndex) (m : List ℕ) → at + 2 ≤ 256 → Holds limit index m → Holds limit index (put_cell m at x)
holds_system_cell limit at x index m h holds =
    holds_system limit at 2 index m (put_cell m at x) h (beside_cell m at x (omega (arith, h))) holds

-- a page of a block buffer
pub holds_page : (limit at : ℕ) (index : NameIndex) (m bs : List ℕ) → length m ≡ 65536 → limit ≤ at → at ≤ 64512 → Holds limit index m → Holds limit index (with_page m at bs)
holds_page limit at index m bs lm behind small holds = grind (arith, holds_below_limit, byte_below)

-- a write to addresses none of which is watched
abbrev pub IsAside : ℕ → Write → Type 0
IsAside top (PutCell at x) = (at < 65536) × ((a : ℕ) → is_watched top a ≡ true → IsBeside at 2 a)
IsAside top (PutBytes at bs) = (at < 65536) × ((a : ℕ) → is_watched top a ≡ true → IsBeside at (length bs) a)

pub ruleset writes = (beside_byte, beside_cell, beside_bytes, beside_filled, beside_moved_up, beside_moved_down, holds_beside, holds_system_cell, holds_page)
