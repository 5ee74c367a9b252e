-- A hidden member is passed.
use Rattle.std.proofs.Common.{◌≡◌, ℕ, ◌<◌, List, refl, arith, true, false}
use Rattle.memory.specs.Bytes.{cell}
use Rattle.dictionary.specs.Header.{is_named, is_hidden}
use Rattle.dictionary.proofs.Chains.{walked_later}
use Rattle.name_index.specs.Passing.{PassesTo}

unnamed_hidden : (m name : List ℕ) (l : ℕ) → is_hidden m l ≡ true → is_named m name l ≡ false
unfolding is_named
unnamed_hidden m name l h = rw h refl

pub passes_hidden : (m name : List ℕ) (l next : ℕ) → l < 65536 → next ≡ cell m l → next < l → is_hidden m l ≡ true → PassesTo m name l next
passes_hidden m name l next small e falls h =
    rw e (32767, omega (arith, e, small, falls), walked_later (is_named m name) m 32768 l (omega arith) (omega (arith, falls)) (unnamed_hidden m name l h))

pub passes_none : (m name : List ℕ) (l : ℕ) → l < 65536 → PassesTo m name l l
passes_none m name l small = (32768, omega (arith, small), refl)
