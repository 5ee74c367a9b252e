-- What is read at watched addresses is the same in each memory that agrees there.
use Rattle.std.proofs.Common.{◌≡◌, ℕ, ◌+◌, ◌<◌, ◌≤◌, List, length, true, arith, sym}
use Rattle.std.proofs.lemmas.Grind.{common_steps}
use Rattle.memory.specs.Bytes.{cell}
use Rattle.memory.proofs.Same.{cell_by}
use Rattle.dictionary.specs.Header.{is_named, name_length}
use Rattle.dictionary.proofs.Searches.{HeaderSame, named_by}
use Rattle.name_index.specs.Watch.{is_watched, Agree}

watched : (top a : ℕ) → 256 ≤ a → a < top → is_watched top a ≡ true
unfolding is_watched
watched top a h k = grind (arith, common_steps)

watched_more : (top more a : ℕ) → top ≤ more → is_watched top a ≡ true → is_watched more a ≡ true
unfolding is_watched
watched_more top more a h k = grind (arith, common_steps)

pub agree_less : (top more : ℕ) (m other : List ℕ) → top ≤ more → Agree more m other → Agree top m other
agree_less top more m other h g a k = g a (watched_more top more a h k)

-- a member of a chain that may be in the table: watched whole, and its link is two addresses below at least
pub record Member (top : ℕ) (m : List ℕ) (l x : ℕ) : Type 0 where
  pub size : length m ≡ 65536
  pub small : top < 65536
  pub from : 256 ≤ l
  pub ends : l + (5 + name_length m l) ≤ top
  pub link : cell m l ≡ x
  pub falls : x + 2 ≤ l

pub link_alike : (top l link : ℕ) (m other : List ℕ) → Member top m l link → Agree top m other → cell other l ≡ link
link_alike top l link m other is g = grind (arith, cell_by, watched)

header_alike : (top l link : ℕ) (m other : List ℕ) → Member top m l link → Agree top m other → HeaderSame m other l
header_alike top l link m other is g = grind (arith, watched)

pub named_alike : (top l link : ℕ) (m other name : List ℕ) → Member top m l link → length other ≡ 65536 → Agree top m other
    → is_named other name l ≡ is_named m name l
named_alike top l link m other name is lo g = sym (named_by m other name l is.size lo (header_alike top l link m other is g))
