-- Where the BEGINs are among the words of a body.
use Rattle.std.specs.Prelude.{◌≡◌, ◌<◌, ◌==◌, ℕ, zero, suc, ◌+◌, List, [], ◌∷◌, if◌then◌else◌, slice_index}
use Rattle.colon_bodies.specs.Tokens.{Token, BEGIN, FORCE, laid_by}

-- words without their BEGINs
abbrev pub without_begins : List Token → List Token
without_begins [] = []
without_begins (BEGIN ∷ ws) = without_begins ws
without_begins (w ∷ ws) = w ∷ without_begins ws

-- 1 if two places are the same
abbrev pub once : (n place : ℕ) → ℕ
once n place = if n == place then 1 else 0

-- how many BEGINs are at a place, among words that begin at n
abbrev pub begins : List Token → (n place : ℕ) → ℕ
begins [] n place = 0
begins (BEGIN ∷ ws) n place = once n place + begins ws n place
begins (w ∷ ws) n place = begins ws (n + laid_by w) place

-- the other words, and how many BEGINs are at each place
pub record IsSketch (whole words : List Token) (counts : List ℕ) : Type 0 where
  pub words_are : words ≡ without_begins whole
  pub counts_are : (place : ℕ) → slice_index counts place ≡ begins whole 0 place

-- words after so many BEGINs
abbrev pub opened : ℕ → List Token → List Token
opened zero ws = ws
opened (suc n) ws = BEGIN ∷ opened n ws

-- the first word that is no BEGIN writes something
abbrev pub Leads : List Token → Type 0
Leads [] = ⊥
Leads (BEGIN ∷ ws) = Leads ws
Leads (w ∷ ws) = 0 < laid_by w

-- so does that after each BEGIN
abbrev pub AreLed : List Token → Type 0
AreLed [] = Unit {0}
AreLed (BEGIN ∷ ws) = Leads ws × AreLed ws
AreLed (w ∷ ws) = AreLed ws

-- no name is forced
abbrev pub AreUnforced : List Token → Type 0
AreUnforced [] = Unit {0}
AreUnforced (FORCE ∷ ws) = ⊥
AreUnforced (w ∷ ws) = AreUnforced ws
