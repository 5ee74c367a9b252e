-- A search, member by member.
use Rattle.std.proofs.Common.{◌≡◌, ◌≢◌, ℕ, zero, suc, ◌-◌, ◌<◌, ◌≤◌, ◌==◌, List, Bool, refl, arith, false, true}
use Rattle.memory.specs.Bytes.{cell}
use Rattle.dictionary.specs.Chain.{chain, is_longer}
use Rattle.dictionary.specs.Search.{Found, Nowhere, TooLong, walked}

longer_later : (m : List ℕ) (n l : ℕ) → (l == 0) ≡ false → is_longer m (suc n) l ≡ is_longer m n (cell m l)
unfolding is_longer chain
longer_later m n l z = grind (arith, z)

nonzero : (l : ℕ) → l ≢ 0 → (l == 0) ≡ false
nonzero l h = grind arith

longer_at_end : (m : List ℕ) (n : ℕ) → is_longer m n 0 ≡ false
unfolding is_longer chain
longer_at_end m n = grind arith

pub walked_at_end : (p : ℕ → Bool) (m : List ℕ) (n l : ℕ) → l ≡ 0 → walked p m n l ≡ Nowhere
unfolding walked chain
walked_at_end p m n l h = grind (arith, longer_at_end)

pub walked_here : (p : ℕ → Bool) (m : List ℕ) (n l : ℕ) → 0 < n → l ≢ 0 → p l ≡ true → walked p m n l ≡ Found l
unfolding walked chain
walked_here p m n l h k q = grind (arith, nonzero)

walked_past : (p : ℕ → Bool) (m : List ℕ) (n l : ℕ) → l ≢ 0 → p l ≡ false → walked p m (suc n) l ≡ walked p m n (cell m l)
unfolding walked chain
walked_past p m n l k q = rw (longer_later m n l (nonzero l k), nonzero l k, q) refl

pub walked_later : (p : ℕ → Bool) (m : List ℕ) (n l : ℕ) → 0 < n → l ≢ 0 → p l ≡ false → walked p m n l ≡ walked p m (n - 1) (cell m l)
walked_later p m zero l h k q = absurd (omega arith)
walked_later p m (suc n) l h k q = let e : suc n - 1 ≡ n = omega arith in rw e (walked_past p m n l k q)

pub walked_cut : (p : ℕ → Bool) (m : List ℕ) (n l : ℕ) → n ≤ 0 → l ≢ 0 → walked p m n l ≡ TooLong
unfolding walked is_longer chain
walked_cut p m n l h k = grind (arith, nonzero)

pub ruleset walking = (walked_at_end, walked_here, walked_later, walked_cut)
