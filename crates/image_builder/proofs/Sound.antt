-- What is so of sound items.
use Rattle.std.proofs.Common.{◌≡◌, ◌≢◌, ℕ, ◌+◌, ◌<◌, ◌≤◌, ◌⊎◌, inl, inr, List, length, Some, refl, arith}
use Rattle.std.specs.Prelude.{false, Option}
use Rattle.memory.specs.declared.limit.TheConstants.{GREATEST_LIMIT}
use Rattle.image_builder.specs.Places.{Place}
use Rattle.image_builder.specs.Names.{Name}
use Rattle.image_builder.specs.declared.entry.Kind.{Kind}
use Rattle.image_builder.specs.declared.entry.Sign.TheVariants as s
use Rattle.image_builder.specs.Items.{Item, Header, Colon, Cell, Byte, Allot, Immediate, Definitions, Boot, Items, Nothing, Then, end_of, current, names, mark, new_name, record_of, sign_of}
use Rattle.image_builder.specs.Grammar.{AreSound, IsSound, IsLimit}
use Rattle.image_builder.specs.Meanings.{record_named, record_if}
use Rattle.image_builder.specs.Built.{IsRecord}
use Rattle.image_builder.proofs.Finding.{Every, every_map, every_found}
use Rattle.image_builder.proofs.Imaging.{record_below, length-bytes}

pub IsVocabulary : Items → ℕ → Type 0
IsVocabulary t v = (v ≡ 42) ⊎ IsRecord t v

-- a name that items made
pub record IsName (t : Items) (n : Name) : Type 0 where
  pub vocabulary_is : (n.vocabulary ≡ 42) ⊎ IsRecord t n.vocabulary
  pub record_is : n.sign ≡ s.Record → IsRecord t (record_of n)
  pub short : length n.name < 32
  pub above : 258 ≤ n.link
  pub below : n.link + 3 + length n.name + 2 ≤ end_of t

pub still : (t : Items) (ws : List Place) (i : Item) (v : ℕ) → (v ≡ 42) ⊎ IsRecord t v → (v ≡ 42) ⊎ IsRecord (Then t ws i) v
still t ws i v x4 = grind arith

name_still : (t : Items) (ws : List Place) (i : Item) (n : Name) → IsName t n → IsName (Then t ws i) n
name_still t ws i n g = record { vocabulary_is = still t ws i n.vocabulary g.vocabulary_is; record_is = λ e. inr (g.record_is e); short = g.short; above = g.above; below = let x = g.below in omega arith }

mark_names : (t : Items) (ns : List Name) → Every (IsName t) ns → Every (IsName t) (mark ns)
mark_names t ns h = grind arith

named_record : (t : Items) (p : Place) (o : Option Name) (v : ℕ) → ((n : Name) → o ≡ Some n → IsName t n) → record_if o ≡ Some v → (v ≡ 42) ⊎ IsRecord t v
named_record t p o v f e = grind arith

pub record_is : (t : Items) (p : Place) (v : ℕ) → Every (IsName t) (names t) → record_named t p ≡ Some v → (v ≡ 42) ⊎ IsRecord t v
record_is t p v h e = grind (arith, named_record, every_found)

pub end_above : (t : Items) → 256 ≤ end_of t
end_above t = let n = length-bytes (λ a c. 0) t false in omega arith

header_name : (t : Items) (ws : List Place) (p : Place) (k : Kind) → length p.name < 32 → 256 ≤ end_of t → (current t ≡ 42) ⊎ IsRecord t (current t) → IsName (Then t ws (Header p k)) (new_name t p (sign_of k))
header_name t ws p k sh en c = grind (arith, still, record_is)

-- the current vocabulary and all names
pub sound_names : (limit : ℕ) (t : Items) → AreSound limit t → ((current t ≡ 42) ⊎ IsRecord t (current t)) × Every (IsName t) (names t)
sound_names limit Nothing h = (inl refl, tt)
sound_names limit (Then t ws i) h = by i h.1 (sound_names limit t h.0)
  where
    by : (j : Item) → IsSound limit t ws j → ((current t ≡ 42) ⊎ IsRecord t (current t)) × Every (IsName t) (names t) → ((current (Then t ws j) ≡ 42) ⊎ IsRecord (Then t ws j) (current (Then t ws j))) × Every (IsName (Then t ws j)) (names (Then t ws j))
    by (Header p k) s g = (still t ws (Header p k) (current t) g.0, (header_name t ws p k s.fits.0 (end_above t) g.0, every_map (IsName t) (IsName (Then t ws (Header p k))) (name_still t ws (Header p k)) (names t) g.1))
    by (Colon p b) s g =
        (still t ws (Colon p b) (current t) g.0, (record { vocabulary_is = still t ws (Colon p b) (current t) g.0; record_is = λ e. cc; short = s.fits.0; above = (let a = end_above t in omega arith); below = omega arith }, every_map (IsName t) (IsName (Then t ws (Colon p b))) (name_still t ws (Colon p b)) (names t) g.1))
    by Immediate s g =
        (still t ws Immediate (current t) g.0, every_map (IsName t) (IsName (Then t ws Immediate)) (name_still t ws Immediate) (mark (names t)) (mark_names t (names t) g.1))
    by (Definitions v) s g =
        (still t ws (Definitions v) v (record_is t s.spells.0 v g.1 s.spells.4), every_map (IsName t) (IsName (Then t ws (Definitions v))) (name_still t ws (Definitions v)) (names t) g.1)
    by (Cell x) s g = (still t ws (Cell x) (current t) g.0, every_map (IsName t) (IsName (Then t ws (Cell x))) (name_still t ws (Cell x)) (names t) g.1)
    by (Byte x) s g = (still t ws (Byte x) (current t) g.0, every_map (IsName t) (IsName (Then t ws (Byte x))) (name_still t ws (Byte x)) (names t) g.1)
    by (Allot x) s g = (still t ws (Allot x) (current t) g.0, every_map (IsName t) (IsName (Then t ws (Allot x))) (name_still t ws (Allot x)) (names t) g.1)
    by (Boot x) s g = (still t ws (Boot x) (current t) g.0, every_map (IsName t) (IsName (Then t ws (Boot x))) (name_still t ws (Boot x)) (names t) g.1)

pub sound_end : (limit : ℕ) (t : Items) → 256 ≤ limit → AreSound limit t → end_of t ≤ limit
sound_end limit Nothing e h = e
sound_end limit (Then t ws i) e h = h.1.room

-- and below the buffers, as few as they may be
pub sound_below : (limit : ℕ) → IsLimit limit → (t : Items) → AreSound limit t → end_of t ≤ GREATEST_LIMIT
sound_below limit few t h = omega (arith, sound_end limit t few.0 h, few.1)

-- no name is in a vocabulary yet to come
pub none_above : (limit : ℕ) (t : Items) (v : ℕ) → AreSound limit t → end_of t ≤ v → 256 ≤ v → Every (λ n. n.vocabulary ≢ v) (names t)
none_above limit t v h a b = grind (arith, every_map, sound_names, record_below)
