use Rattle.std.proofs.Common.{rules, ◌≡◌, ◌≢◌, ◌+◌, ◌-◌, ◌<◌, ◌≤◌, ℕ, List, ◌∷◌, ◌++◌, length, take, drop, arith, Bool, true, false, ◌&&◌, bytes_eq, slice_index}
use Rattle.std.proofs.lemmas.Slice.Eq.{bytes_eq-Decides}
use Rattle.std.specs.Int.Bits.{mask_lt}
use Rattle.cells.specs.Cell.{wrap}
use Rattle.memory.specs.Bytes.{byte}
use Rattle.memory.proofs.Ranges.{length-bytes, byte-bytes}
use Rattle.dictionary.specs.Header.{count_byte, name_of, name_length}

-- the bytes of a list that comes in two pieces, against a list
pub bytes_eq_pieces : (xs ys zs : List ℕ) → length xs ≤ length zs → bytes_eq (xs ++ ys) zs ≡ (bytes_eq xs (take (length xs) zs) && bytes_eq ys (drop (length xs) zs))
bytes_eq_pieces (x ∷ xs) ys (z ∷ zs) h = let r = bytes_eq_pieces xs ys zs (omega arith) in grind (arith, r)
bytes_eq_pieces xs ys zs h = grind arith

pub bytes_eq_short : (xs ys zs : List ℕ) → length zs < length xs → bytes_eq (xs ++ ys) zs ≡ false
bytes_eq_short (x ∷ xs) ys (z ∷ zs) h = let r = bytes_eq_short xs ys zs (omega arith) in grind (arith, r)
bytes_eq_short xs ys zs h = grind arith

-- names of other lengths
pub other_length : (xs ys : List ℕ) → length xs ≢ length ys → bytes_eq xs ys ≡ false
other_length (x ∷ xs) (y ∷ ys) h = let r = other_length xs ys (λ e. h (omega (arith, e))) in grind (arith, r)
other_length xs ys h = grind arith

length_small : (m : List ℕ) (l : ℕ) → name_length m l ≤ 65536
unfolding name_length
length_small m l = let e = mask_lt (count_byte m l) 5 in omega (arith, e)

pub length_otherwise : (m name : List ℕ) (l : ℕ) → length m ≡ 65536 → name_length m l ≢ length name → bytes_eq (name_of m l) name ≡ false
unfolding name_of
length_otherwise m name l lm h = grind (arith, other_length, length-bytes, length_small)

-- names that end in other bytes
same_bytes : (xs ys : List ℕ) → bytes_eq xs ys ≡ true → xs ≡ ys
same_bytes xs ys e = search (rules, bytes_eq-Decides)

false_by : (b : Bool) → (b ≡ true → false ≡ true) → b ≡ false
false_by b h = grind arith

last_byte : (m name : List ℕ) (l n : ℕ) → length m ≡ 65536 → n ≡ name_length m l → n ≤ 256 → 0 < n → name_of m l ≡ name
    → byte m (wrap (l + (2 + n))) ≡ slice_index name (n - 1)
unfolding name_of
last_byte m name l n lm e small some named = grind (arith, byte-bytes)

pub ends_otherwise : (m name : List ℕ) (l n : ℕ) → length m ≡ 65536 → n ≡ name_length m l → n ≤ 256 → 0 < n
    → byte m (wrap (l + (2 + n))) ≢ slice_index name (n - 1) → bytes_eq (name_of m l) name ≡ false
ends_otherwise m name l n lm e small some other = grind (arith, false_by, last_byte, same_bytes)
