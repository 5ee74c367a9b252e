-- Searches in two memories whose headers are the same.
use Rattle.std.proofs.Common.{◌≡◌, ℕ, zero, suc, ◌+◌, ◌<◌, ◌≤◌, ◌∷◌, List, [], length, refl, arith, Bool, sym}
use Rattle.std.specs.Prelude.{◌==◌, if◌then◌else◌, find}
use Rattle.memory.specs.Bytes.{byte, cell}
use Rattle.memory.proofs.Kept.{wrap_small}
use Rattle.memory.proofs.Same.{cell_by, bytes_by}
use Rattle.dictionary.specs.Header.{is_named, is_hidden, count_byte, name_length, name_of, is_immediate, compilation_address}
use Rattle.dictionary.specs.Chain.{chain, is_longer}
use Rattle.dictionary.specs.Search.{head_of, walked, first_in, first_from, sought_from}

-- a header, from its link field to after its code field, is within memory, and the same in m and n
pub record HeaderSame (m n : List ℕ) (l : ℕ) : Type 0 where
  pub ends : l + (5 + name_length m l) ≤ 65536
  pub same : (i : ℕ) → l ≤ i → i < l + (5 + name_length m l) → byte m i ≡ byte n i

-- so are all of them
abbrev pub AreSame : List ℕ → List ℕ → List ℕ → Type 0
AreSame m n [] = n ≡ n
AreSame m n (l ∷ ls) = HeaderSame m n l × AreSame m n ls

-- the chains of a name's class in a vocabulary and in FORTH, with their heads, are the same
pub record ChainsSame (m n : List ℕ) (voc : ℕ) (nm : List ℕ) : Type 0 where
  pub head : cell m (head_of voc nm) ≡ cell n (head_of voc nm)
  pub members : AreSame m n (chain m 32769 (cell m (head_of voc nm)))
  pub forth_head : cell m (head_of 42 nm) ≡ cell n (head_of 42 nm)
  pub forth_members : AreSame m n (chain m 32769 (cell m (head_of 42 nm)))

-- all cells at these places are from lo to hi - 1
abbrev pub AllIn : ℕ → ℕ → List ℕ → Type 0
AllIn lo hi [] = lo ≡ lo
AllIn lo hi (l ∷ ls) = (lo ≤ l) × (l + 1 < hi) × AllIn lo hi ls

-- what a header says
pub count_by : (m n : List ℕ) (l : ℕ) → HeaderSame m n l → count_byte m l ≡ count_byte n l
unfolding count_byte
count_by m n l h = let e = h.ends in rw (wrap_small (l + 2) (omega arith)) (h.same (l + 2) (omega arith) (omega arith))

pub length_by : (m n : List ℕ) (l : ℕ) → HeaderSame m n l → name_length m l ≡ name_length n l
unfolding name_length
length_by m n l h = rw (count_by m n l h) refl

pub immediate_by : (m n : List ℕ) (l : ℕ) → HeaderSame m n l → is_immediate m l ≡ is_immediate n l
unfolding is_immediate
immediate_by m n l h = rw (count_by m n l h) refl

pub address_by : (m n : List ℕ) (l : ℕ) → HeaderSame m n l → compilation_address m l ≡ compilation_address n l
unfolding compilation_address
address_by m n l h = rw (length_by m n l h) refl

name_by : (m n : List ℕ) (l : ℕ) → length m ≡ 65536 → length n ≡ 65536 → HeaderSame m n l → name_of m l ≡ name_of n l
unfolding name_of
name_by m n l lm ln h = grind (arith, wrap_small, length_by, bytes_by)

hidden_by : (m n : List ℕ) (l : ℕ) → HeaderSame m n l → is_hidden m l ≡ is_hidden n l
unfolding is_hidden
hidden_by m n l h = rw (count_by m n l h) refl

pub named_by : (m n nm : List ℕ) (l : ℕ) → length m ≡ 65536 → length n ≡ 65536 → HeaderSame m n l → is_named m nm l ≡ is_named n nm l
unfolding is_named
named_by m n nm l lm ln h = rw (hidden_by m n l h, name_by m n l lm ln h) refl

link_by : (m n : List ℕ) (l : ℕ) → HeaderSame m n l → cell m l ≡ cell n l
link_by m n l h = let e = h.ends in cell_by m n l (omega arith) (h.same l (omega arith) (omega arith)) (h.same (l + 1) (omega arith) (omega arith))

-- chains
chain_step : (m n : List ℕ) (k l : ℕ) (b : Bool) → (l == 0) ≡ b → ((x : ℕ) → AreSame m n (chain m k x) → chain m k x ≡ chain n k x) → AreSame m n (if b then [] else l ∷ chain m k (cell m l)) → (if b then [] else l ∷ chain m k (cell m l)) ≡ (if b then [] else l ∷ chain n k (cell n l))
chain_step m n k l b e f h = grind (arith, link_by)

pub chain_by : (m n : List ℕ) (k l : ℕ) → AreSame m n (chain m k l) → chain m k l ≡ chain n k l
unfolding chain
chain_by m n zero l h = refl
chain_by m n (suc k) l h = chain_step m n k l (l == 0) refl (λ (x : ℕ) (g : AreSame m n (chain m k x)). chain_by m n k x g) h

-- what is the same in a chain is the same in what it begins with
less_step : (m n : List ℕ) (k l : ℕ) (b : Bool) → ((x : ℕ) → AreSame m n (chain m (suc k) x) → AreSame m n (chain m k x)) → AreSame m n (if b then [] else l ∷ chain m (suc k) (cell m l)) → AreSame m n (if b then [] else l ∷ chain m k (cell m l))
less_step m n k l b f h = grind arith

pub less_same : (m n : List ℕ) (k l : ℕ) → AreSame m n (chain m (suc k) l) → AreSame m n (chain m k l)
unfolding chain
less_same m n zero l h = refl
less_same m n (suc k) l h = less_step m n k l (l == 0) (λ (x : ℕ) (g : AreSame m n (chain m (suc k) x)). less_same m n k x g) h

find_by : (m n nm ls : List ℕ) → length m ≡ 65536 → length n ≡ 65536 → AreSame m n ls → find (is_named m nm) ls ≡ find (is_named n nm) ls
find_by m n nm [] lm ln h = refl
find_by m n nm (l ∷ ls) lm ln h = rw (named_by m n nm l lm ln h.0, find_by m n nm ls lm ln h.1) refl

pub walked_by : (m n nm : List ℕ) (k l : ℕ) → length m ≡ 65536 → length n ≡ 65536 → AreSame m n (chain m (suc k) l)
    → walked (is_named m nm) m k l ≡ walked (is_named n nm) n k l
unfolding walked is_longer
walked_by m n nm k l lm ln h =
    let less = less_same m n k l h in
    rw (sym (chain_by m n (suc k) l h), sym (chain_by m n k l less), find_by m n nm (chain m k l) lm ln less) refl

-- a search
pub sought_by : (m n nm : List ℕ) (voc : ℕ) → length m ≡ 65536 → length n ≡ 65536 → ChainsSame m n voc nm → sought_from m voc nm ≡ sought_from n voc nm
unfolding sought_from first_from first_in
sought_by m n nm voc lm ln h = grind (arith, walked_by)
