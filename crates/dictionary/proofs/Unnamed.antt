use Rattle.std.proofs.Common.{◌≡◌, ◌≢◌, ℕ, ◌<◌, ◌≤◌, ◌⊎◌, List, length, Bool, false, None, refl, arith, sym, ◌∙◌, slice_index}
use Rattle.std.specs.Prelude.{IsFalse, find}
use Rattle.std.proofs.lemmas.Nat.{and_le_r}
use Rattle.std.proofs.lemmas.Grind.{common_steps}
use Rattle.memory.specs.Bytes.{cell, bytes}
use Rattle.dictionary.specs.Header.{count_byte, name_length, name_of, is_named}
use Rattle.dictionary.specs.Chain.{chain, is_longer}
use Rattle.dictionary.specs.Search.{Sought, Found, Nowhere, comes_to, head_of, walked, first_in, or_else, first_from, sought_in, sought_from}
use Rattle.dictionary.specs.Adding.{is_name}
use Rattle.dictionary.proofs.Firsts.{none_first, from_in}
use Rattle.dictionary.proofs.Names.{other_length}

name_at_most : (m : List ℕ) (l : ℕ) → length (name_of m l) ≤ 31
unfolding name_of name_length bytes
name_at_most m l = let k = and_le_r (count_byte m l) 31 in grind (arith, common_steps, k)

unnamed : (m name : List ℕ) (l : ℕ) → 31 < length name → is_named m name l ≡ false
unfolding is_named
unnamed m name l h = let n = name_at_most m l in let u = other_length (name_of m l) name (λ e. absurd (omega (arith, n, h, e))) in grind (arith, u)

find_none : (m name : List ℕ) (ls : List ℕ) → 31 < length name → find (is_named m name) ls ≡ None
find_none m name ls h = none_first (is_named m name) ls (λ k d lt. unnamed m name _ h)

walked_long : (m name : List ℕ) (n l : ℕ) → 31 < length name → walked (is_named m name) m n l ≡ comes_to None (is_longer m n l)
unfolding walked
walked_long m name n l h = rw (find_none m name (chain m n l) h) refl

same_head : (voc : ℕ) (name other : List ℕ) → slice_index name 0 ≡ slice_index other 0 → head_of voc name ≡ head_of voc other
unfolding head_of
same_head voc name other e = rw e refl

in_long : (m name : List ℕ) (voc : ℕ) → 31 < length name → sought_in m voc name ≡ comes_to None (is_longer m 32768 (cell m (head_of voc name)))
unfolding sought_in first_in
in_long m name voc h = walked_long m name 32768 (cell m (head_of voc name)) h

not_found : (b : Bool) (l : ℕ) → comes_to None b ≢ Found l
not_found b l e = grind arith

pub long_never : (m name : List ℕ) (voc l : ℕ) → 31 < length name → sought_in m voc name ≢ Found l
long_never m name voc l h e = not_found _ l (sym (in_long m name voc h) ∙ e)

pub long_alone : (m name other : List ℕ) (voc : ℕ) → 31 < length name → 31 < length other → slice_index name 0 ≡ slice_index other 0
    → sought_in m voc name ≡ sought_in m voc other
long_alone m name other voc h k e = grind (arith, in_long, same_head)

pub long_from : (m name other : List ℕ) (voc : ℕ) → 31 < length name → 31 < length other → slice_index name 0 ≡ slice_index other 0
    → sought_from m voc name ≡ sought_from m voc other
long_from m name other voc h k e = grind (arith, from_in, long_alone)

neither : (a b : Sought) (l : ℕ) → a ≢ Found l → b ≢ Found l → or_else a b ≢ Found l
neither a b l h k e = grind arith

pub empty_never : (m name : List ℕ) (voc : ℕ) → length name ≡ 0 → sought_from m voc name ≡ Nowhere
unfolding sought_from first_from
empty_never m name voc h = rw h refl

nowhere_found : (l : ℕ) → Nowhere ≢ Found l
nowhere_found l e = cc

by_length : (m name : List ℕ) (voc l n : ℕ) → length name ≡ n → (n ≡ 0) ⊎ (31 < n) → sought_from m voc name ≢ Found l
by_length m name voc l n e x6 q = grind (arith, nowhere_found, empty_never, neither, long_never, from_in)

no_name : (name : List ℕ) → IsFalse (is_name name) → (length name ≡ 0) ⊎ (31 < length name)
unfolding is_name
no_name name h = grind arith

pub name_never : (m name : List ℕ) (voc l : ℕ) → IsFalse (is_name name) → sought_from m voc name ≢ Found l
name_never m name voc l h = by_length m name voc l (length name) refl (no_name name h)
