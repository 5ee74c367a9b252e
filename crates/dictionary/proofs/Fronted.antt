-- Searches if a new header is in front of a chain.
use Rattle.std.proofs.Common.{◌≡◌, ◌≢◌, ℕ, suc, ◌+◌, ◌<◌, ◌≤◌, ◌∷◌, List, [], length, refl, arith, Bool, false, sym, ap, subst, ◌∙◌, inl, inr, ◌⊎◌}
use Rattle.std.specs.Prelude.{◌==◌, find}
use Rattle.memory.specs.Bytes.{byte, cell}
use Rattle.memory.specs.declared.limit.TheConstants.{GREATEST_LIMIT}
use Rattle.memory.proofs.Same.{cell_by}
use Rattle.dictionary.specs.Header.{is_named, name_length}
use Rattle.dictionary.specs.Chain.{chain, is_longer}
use Rattle.dictionary.specs.Search.{head_of, walked, first_in, first_from, sought_from}
use Rattle.dictionary.proofs.Firsts.{chain_cut}
use Rattle.dictionary.proofs.Searches.{HeaderSame, AreSame, chain_by, walked_by}

-- a header is from 34 to here, and doesn't meet the head
abbrev pub HeaderApart : ℕ → ℕ → List ℕ → ℕ → Type 0
HeaderApart here head m l = (34 ≤ l) × (l + (5 + name_length m l) ≤ here) × ((head + 1 < l) ⊎ (l + (5 + name_length m l) ≤ head))

abbrev pub HeadersApart : ℕ → ℕ → List ℕ → List ℕ → Type 0
HeadersApart here head m [] = here ≡ here
HeadersApart here head m (l ∷ ls) = HeaderApart here head m l × HeadersApart here head m ls

-- a chain's head is that head or apart from it, its headers are apart from it, and it has fewer than 32,768
pub record ChainApart (here head : ℕ) (m : List ℕ) (h : ℕ) : Type 0 where
  pub low : 34 ≤ h
  pub high : h + 1 < here
  pub beside : (h ≡ head) ⊎ ((head + 1 < h) ⊎ (h + 1 < head))
  pub members : HeadersApart here head m (chain m 32769 (cell m h))
  pub short : length (chain m 32769 (cell m h)) ≤ 32767

-- a new header is in front of the chain of a head: else nothing below it that is read by searches has changed
pub record Fronted (m n : List ℕ) (here head new : ℕ) : Type 0 where
  pub head_is : cell n head ≡ new
  pub link_is : cell n new ≡ cell m head
  pub some : (new == 0) ≡ false
  pub low : 256 ≤ here
  pub high : here ≤ GREATEST_LIMIT
  pub same : (i : ℕ) → 34 ≤ i → i < here → i ≢ head → i ≢ head + 1 → byte n i ≡ byte m i
  pub all : length m ≡ 65536
  pub all_new : length n ≡ 65536

pub header_same : (m n : List ℕ) (here head new l : ℕ) → Fronted m n here head new → HeaderApart here head m l → HeaderSame m n l
header_same m n here head new l f g = grind arith

pub headers_same : (m n : List ℕ) (here head new : ℕ) (ls : List ℕ) → Fronted m n here head new → HeadersApart here head m ls → AreSame m n ls
headers_same m n here head new [] f g = refl
headers_same m n here head new (l ∷ ls) f g = (header_same m n here head new l f g.0, headers_same m n here head new ls f g.1)

pub head_same : (m n : List ℕ) (here head new h : ℕ) → Fronted m n here head new → 34 ≤ h → h + 1 < here → (head + 1 < h) ⊎ (h + 1 < head) → cell n h ≡ cell m h
head_same m n here head new h f l g x9 = grind (arith, cell_by)

-- the longest chain, and those cut earlier, are one if it has fewer than 32,768 members
pub cuts : (m : List ℕ) (l : ℕ) → length (chain m 32769 l) ≤ 32767 → (chain m 32769 l ≡ chain m 32768 l) × (chain m 32768 l ≡ chain m 32767 l)
cuts m l h = grind (arith, chain_cut)

pub chain_more : (m : List ℕ) (k l : ℕ) → (l == 0) ≡ false → chain m (suc k) l ≡ l ∷ chain m k (cell m l)
unfolding chain
chain_more m k l z = rw z refl

longer_not : (m : List ℕ) (k l : ℕ) → length (chain m (suc k) l) ≤ k → is_longer m k l ≡ false
unfolding is_longer
longer_not m k l h = grind arith

-- after a new header that fails the test, the search goes on as before
front_found : (p : ℕ → Bool) (m : List ℕ) (new link : ℕ) → (new == 0) ≡ false → cell m new ≡ link → p new ≡ false
    → length (chain m 32769 link) ≤ 32767 → find p (chain m 32768 new) ≡ find p (chain m 32768 link)
front_found p m new link z e q h = let c = cuts m link h in rw (chain_more m 32767 new z, e, q, c.1) refl

front_length : (m : List ℕ) (new link : ℕ) → (new == 0) ≡ false → cell m new ≡ link → length (chain m 32769 link) ≤ 32767
    → length (chain m 32769 new) ≤ 32768
front_length m new link z e h = grind (arith, cuts, chain_more)

front_walked : (p : ℕ → Bool) (m : List ℕ) (new link : ℕ) → (new == 0) ≡ false → cell m new ≡ link → p new ≡ false
    → length (chain m 32769 link) ≤ 32767 → walked p m 32768 new ≡ walked p m 32768 link
unfolding walked
front_walked p m new link z e q h = grind (arith, longer_not, front_length, front_found)

-- one chain
chain_fronted : (m n : List ℕ) (here head new h : ℕ) (x : List ℕ) → Fronted m n here head new → is_named n x new ≡ false
    → ChainApart here head m h → walked (is_named n x) n 32768 (cell n h) ≡ walked (is_named m x) m 32768 (cell m h)
chain_fronted m n here head new h x f q c = by_place c.beside
  where
    same : AreSame m n (chain m 32769 (cell m h))
    same = headers_same m n here head new (chain m 32769 (cell m h)) f c.members

    as_before : walked (is_named n x) n 32768 (cell m h) ≡ walked (is_named m x) m 32768 (cell m h)
    as_before = sym (walked_by m n x 32768 (cell m h) f.all f.all_new same)

    short : length (chain n 32769 (cell m h)) ≤ 32767
    short = subst (λ (xs : List ℕ). length xs ≤ 32767) (chain_by m n 32769 (cell m h) same) c.short

    by_place : (h ≡ head) ⊎ ((head + 1 < h) ⊎ (h + 1 < head)) → walked (is_named n x) n 32768 (cell n h) ≡ walked (is_named m x) m 32768 (cell m h)
    by_place (inr b) = let e : cell n h ≡ cell m h = head_same m n here head new h f c.low c.high b in rw e as_before
    by_place (inl b) =
        let e : cell n h ≡ new = ap (λ (i : ℕ). cell n i) b ∙ f.head_is in
        let l : cell n new ≡ cell m h = f.link_is ∙ ap (λ (i : ℕ). cell m i) (sym b) in
        rw e (front_walked (is_named n x) n new (cell m h) f.some l q short ∙ as_before)

-- a search
pub sought_fronted : (m n : List ℕ) (here head new voc : ℕ) (x : List ℕ) → Fronted m n here head new → is_named n x new ≡ false
    → ChainApart here head m (head_of voc x) → ChainApart here head m (head_of 42 x) → sought_from n voc x ≡ sought_from m voc x
unfolding sought_from first_from first_in
sought_fronted m n here head new voc x f q c d =
    rw (chain_fronted m n here head new (head_of voc x) x f q c, chain_fronted m n here head new (head_of 42 x) x f q d) refl
