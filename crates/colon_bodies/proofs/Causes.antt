-- What the causes mean: which apply to a word, and the first of them.
use Rattle.std.proofs.Common.{◌≡◌, true, false, ℕ, ◌+◌, ◌<◌, ◌⊎◌, inl, inr, suc, ap, List, [], ◌∷◌, ◌++◌, arith}
use Rattle.colon_bodies.specs.Tokens.{Token, laid, IsShort, DOES, SEMI}
use Rattle.colon_bodies.specs.Tree.{Definition, all_words}
use Rattle.colon_bodies.specs.Rules.{IsKnown, half_of, suits, has_does}
use Rattle.colon_bodies.specs.Faults.{BeginsShallow}
use Rattle.colon_bodies.specs.declared.fault.BodyCause.{BodyCause}
use Rattle.colon_bodies.specs.declared.words.Half.TheVariants.{Free}
use Rattle.colon_bodies.specs.declared.fault.BodyCause.TheVariants.{Memory, Misplaced, Unbalanced, Unknown, BadName, Full, EndsInside}

-- these words begin a definition and its ;, or are all of it
pub record Begins (front : List Token) : Type 0 where
  pub body : Definition
  pub more : List Token
  pub is : all_words body ++ SEMI ∷ [] ≡ front ++ more

-- a word that can't come after what is half read; a second DOES>; a structure too many
abbrev pub IsUnsuited : List Token → Token → Type 0
IsUnsuited before w = suits (half_of Free before) w ≡ false

abbrev pub IsSecond : List Token → Token → Type 0
IsSecond before w = (w ≡ DOES) × (has_does before ≡ true)

abbrev pub IsTooDeep : List Token → Token → Type 0
IsTooDeep before w = Begins (before ++ w ∷ []) × (BeginsShallow (before ++ w ∷ []) → ⊥)

-- what each cause says of a word and the words before it, if the cell after the last byte may be limit
abbrev pub Applies : (ℕ → ℕ) → ℕ → ℕ → BodyCause → List Token → Token → Type 0
Applies rt at limit Memory before w = Unit {0}
Applies rt at limit Misplaced before w = IsUnsuited before w ⊎ IsSecond before w ⊎ IsTooDeep before w
Applies rt at limit Unbalanced before w = Begins (before ++ w ∷ []) → ⊥
Applies rt at limit Unknown before w = IsKnown rt w → ⊥
Applies rt at limit BadName before w = IsShort w → ⊥
Applies rt at limit Full before w = limit < at + laid (before ++ w ∷ [])
Applies rt at limit EndsInside before w = ⊥

-- the order in which the causes of one word count
abbrev pub rank : BodyCause → ℕ
rank Memory = 0
rank Misplaced = 1
rank Unbalanced = 2
rank Unknown = 3
rank BadName = 4
rank Full = 5
rank EndsInside = 6

-- the first cause of a word
pub record FirstCause (rt : ℕ → ℕ) (at limit : ℕ) (cause : BodyCause) (before : List Token) (w : Token) : Type 0 where
  pub applies : Applies rt at limit cause before w
  pub first : (d : BodyCause) → 0 < rank d → rank d < rank cause → Applies rt at limit d before w → ⊥

-- there is one first cause
rank_same : (c d : BodyCause) → rank c ≡ rank d → c ≡ d
rank_same c d e = grind arith

pub ranked : (c : BodyCause) → (c ≡ Memory) ⊎ (0 < rank c)
ranked c = grind arith

order : (m n : ℕ) → (m < n) ⊎ (n < m) ⊎ (m ≡ n)
order (suc m) (suc n) = elim (order m n) [ inl a ↦ inl (omega arith) | inr (inl a) ↦ inr (inl (omega arith)) | inr (inr a) ↦ inr (inr (ap suc a)) ]
order m n = grind arith

pub same_cause : (rt : ℕ → ℕ) (at limit : ℕ) (before : List Token) (w : Token) (c d : BodyCause) → FirstCause rt at limit c before w → FirstCause rt at limit d before w → 0 < rank c → 0 < rank d → c ≡ d
same_cause rt at limit before w c d f g a b = grind (arith, order, rank_same)
