-- Good sources, and the first fault of any other.
use Rattle.std.specs.Prelude.{ℕ, Bool, false, not, ◌&&◌, if◌then◌else◌, nat_lt, ◌+◌, List, [], ◌∷◌, ◌++◌, length, ◌≡◌, ◌≤◌, ◌⊎◌, Option, Some, None, is_none}
use Rattle.colon_bodies.specs.Tokens.{Token, control_written, laid, is_long, AreShort, SEMI}
use Rattle.colon_bodies.specs.Tree.{Definition, all_words, all_nesting}
use Rattle.colon_bodies.specs.Rules.{AreKnown, is_missing, half_of, suits, has_does, opened}
use Rattle.colon_bodies.specs.declared.fault.BodyCause.{BodyCause}
use Rattle.colon_bodies.specs.declared.words.Half.TheVariants.{Free}
use Rattle.colon_bodies.specs.declared.fault.BodyCause.TheVariants.{Memory, Misplaced, Unbalanced, Unknown, BadName, Full, EndsInside}

-- these words begin a definition whose structures lie at most 64 deep, and its ;, or are all of it
pub record BeginsShallow (front : List Token) : Type 0 where
  pub body : Definition
  pub more : List Token
  pub is : all_words body ++ SEMI ∷ [] ≡ front ++ more
  pub shallow : all_nesting body ≤ 64

-- Nothing is wrong with these words, which are written from an address on, and the definition goes on after them.
pub record IsFront (rt : ℕ → ℕ) (at limit : ℕ) (front : List Token) : Type 0 where
  pub open_yet : (t : Definition) → all_words t ++ SEMI ∷ [] ≡ front → ⊥
  pub begins : BeginsShallow front
  pub known : AreKnown rt front
  pub short : AreShort front
  pub room : at + laid front ≤ limit

-- more than 64 structures are open
abbrev pub is_deep : Option (List Token) → Bool
is_deep None = false
is_deep (Some os) = nat_lt 64 (length os)

-- why a word is refused after these words, if it is; the cell after the last byte may be limit
unfoldable pub body_cause : (ℕ → ℕ) → (at limit : ℕ) → List Token → Token → Option BodyCause
body_cause rt at limit before w =
    if not (suits (half_of Free before) w) then Some Misplaced
    else if has_does before && has_does (w ∷ []) then Some Misplaced
    else if is_deep (opened (Some []) (before ++ w ∷ [])) then Some Misplaced
    else if is_none (opened (Some []) (before ++ w ∷ [])) then Some Unbalanced
    else if is_missing rt (control_written w) then Some Unknown
    else if is_long w then Some BadName
    else if nat_lt limit (at + laid (before ++ w ∷ [])) then Some Full
    else None

-- the first fault of a source: the place of a word, and the cause; lack of memory says nothing
abbrev pub IsFault : (ℕ → ℕ) → ℕ → ℕ → List Token → ℕ → BodyCause → Type 0
IsFault rt at limit source place Memory = Unit {0}
IsFault rt at limit source place EndsInside =
    (place ≡ length source) × IsFront rt at limit source
IsFault rt at limit source place cause =
    (before : List Token) × (w : Token) × (after : List Token)
    × (source ≡ before ++ w ∷ after) × (place ≡ length before) × IsFront rt at limit before × (body_cause rt at limit before w ≡ Some cause)

-- no fault is found in it, lack of memory aside
abbrev pub HasNoFault : (ℕ → ℕ) → (at limit : ℕ) → List Token → Type 0
HasNoFault rt at limit source = (place : ℕ) (cause : BodyCause) → IsFault rt at limit source place cause → cause ≡ Memory

-- these are one and the same fault, lack of memory aside
abbrev pub IsSameFault : ℕ → BodyCause → ℕ → BodyCause → Type 0
IsSameFault p c q d = (c ≡ Memory) ⊎ (d ≡ Memory) ⊎ ((p ≡ q) × (c ≡ d))

-- a source that begins with a whole definition
pub record IsGood (rt : ℕ → ℕ) (at limit : ℕ) (source : List Token) (body : Definition) (used : ℕ) : Type 0 where
  pub after : List Token
  pub is : source ≡ (all_words body ++ SEMI ∷ []) ++ after
  pub used_is : used ≡ length (all_words body ++ SEMI ∷ [])
  pub shallow : all_nesting body ≤ 64
  pub known : AreKnown rt (all_words body ++ SEMI ∷ [])
  pub short : AreShort (all_words body)
  pub room : at + laid (all_words body ++ SEMI ∷ []) ≤ limit
