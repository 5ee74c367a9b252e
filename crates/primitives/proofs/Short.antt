-- No header's name has more than 31 bytes: so a longer one is sought as its first 32 bytes are.
use Rattle.std.proofs.Common.{◌≡◌, ℕ, ◌<◌, List, [], ◌∷◌, length, take, Bool, ◌==◌, refl, arith, inl, inr}
use Rattle.std.specs.Prelude.{find}
use Rattle.std.specs.Int.Bits.{mask_lt}
use Rattle.std.proofs.lemmas.Bool.{cases_lt}
use Rattle.std.proofs.lemmas.List.{take_all, length-take-le}
use Rattle.std.proofs.lemmas.Grind.{common_steps}
use Rattle.memory.specs.Bytes.{cell}
use Rattle.dictionary.specs.Header.{count_byte, name_length, is_named}
use Rattle.dictionary.specs.Search.{head_of, walked, first_in, first_from, sought_in, sought_from, sought}
use Rattle.dictionary.specs.Forgetting.{target}
use Rattle.dictionary.proofs.Names.{length_otherwise}

few : (m : List ℕ) (l : ℕ) → name_length m l < 32
unfolding name_length
few m l = mask_lt (count_byte m l) 5

named_short : (m name : List ℕ) (l : ℕ) → length m ≡ 65536 → is_named m (take 32 name) l ≡ is_named m name l
unfolding is_named
named_short m name l lm = elim (cases_lt 32 (length name)) [
  | inl long ↦
      let f = few m l in
      let k : length (take 32 name) ≡ 32 = length-take-le 32 name (omega (arith, long)) in
      rw (length_otherwise m (take 32 name) l lm (λ e. absurd (omega (arith, f, k, e))), length_otherwise m name l lm (λ e. absurd (omega (arith, f, long, e)))) refl
  | inr short ↦ rw (take_all 32 name short) refl
]

find_same : (p q : ℕ → Bool) → ((l : ℕ) → p l ≡ q l) → (xs : List ℕ) → find p xs ≡ find q xs
find_same p q e [] = refl
find_same p q e (x ∷ xs) = rw (e x, find_same p q e xs) refl

head_short : (voc : ℕ) (name : List ℕ) → head_of voc (take 32 name) ≡ head_of voc name
unfolding head_of
head_short voc name = grind arith

empty_short : (name : List ℕ) → (length (take 32 name) == 0) ≡ (length name == 0)
empty_short name = grind (arith, common_steps)

first_short : (m name : List ℕ) (voc : ℕ) → length m ≡ 65536 → first_in (is_named m (take 32 name)) m voc (take 32 name) ≡ first_in (is_named m name) m voc name
unfolding first_in walked
first_short m name voc lm = rw (head_short voc name, find_same (is_named m (take 32 name)) (is_named m name) (λ l. named_short m name l lm) _) refl

pub sought_short : (m name : List ℕ) → length m ≡ 65536 → sought m (take 32 name) ≡ sought m name
unfolding sought sought_from first_from
sought_short m name lm = rw (empty_short name, first_short m name (cell m _) lm, first_short m name 42 lm) refl

pub target_short : (m name : List ℕ) → length m ≡ 65536 → target m (take 32 name) ≡ target m name
unfolding target sought_in
target_short m name lm = rw (empty_short name, first_short m name (cell m _) lm) refl
