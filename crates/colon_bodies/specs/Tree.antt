-- Bodies of colon definitions, and their words.
use Rattle.std.specs.Prelude.{ℕ, Bool, true, false, ◌+◌, List, [], ◌∷◌, ◌++◌, max}
use Rattle.colon_bodies.specs.Tokens.{Token, NAME, NUMBER, DOUBLE, TICK, FORCE, COMPILE, IF, ELSE, THEN, BEGIN, UNTIL, AGAIN, WHILE, REPEAT, DO, LOOP, TEXT, DOES}

-- A body is empty, or a body and one more thing after it.
pub data Body : Type 0 where
  Empty : Body
  Call : Body → (forced : Bool) → (w : ℕ) → Body
  Literal : Body → (n : ℕ) → Body
  Double : Body → (n : ℕ) → Body
  Tick : Body → (w : ℕ) → Body
  Pair : Body → (forced : Bool) → (w : ℕ) → Body
  IfThen : Body → Body → Body
  IfElse : Body → Body → Body → Body
  Until : Body → Body → Body
  Again : Body → Body → Body
  While : Body → Body → Body → Body
  Loop : Body → Body → (plus : Bool) → Body
  Text : Body → (aborts : Bool) → (bytes : List ℕ) → Body

-- A definition is a body, or a body, DOES> and a body.
pub data Definition : Type 0 where
  Simple : Body → Definition
  Doing : Body → Body → Definition

-- a name, after [COMPILE] if it is forced
abbrev pub named : (forced : Bool) → (w : ℕ) → List Token
named false w = NAME w ∷ []
named true w = FORCE ∷ NAME w ∷ []

-- the words of a body
abbrev pub words : Body → List Token
words Empty = []
words (Call t f w) = words t ++ named f w
words (Literal t n) = words t ++ NUMBER n ∷ []
words (Double t n) = words t ++ DOUBLE n ∷ []
words (Tick t w) = words t ++ (TICK ∷ NAME w ∷ [])
words (Pair t f w) = words t ++ (COMPILE ∷ named f w)
words (IfThen t a) = words t ++ (IF ∷ (words a ++ THEN ∷ []))
words (IfElse t a b) = words t ++ (IF ∷ (words a ++ (ELSE ∷ (words b ++ THEN ∷ []))))
words (Until t a) = words t ++ (BEGIN ∷ (words a ++ UNTIL ∷ []))
words (Again t a) = words t ++ (BEGIN ∷ (words a ++ AGAIN ∷ []))
words (While t a b) = words t ++ (BEGIN ∷ (words a ++ (WHILE ∷ (words b ++ REPEAT ∷ []))))
words (Loop t a k) = words t ++ (DO ∷ (words a ++ LOOP k ∷ []))
words (Text t k bs) = words t ++ TEXT k bs ∷ []

abbrev pub all_words : Definition → List Token
all_words (Simple t) = words t
all_words (Doing t a) = words t ++ (DOES ∷ words a)

-- how deep its structures lie in one another
abbrev pub nesting : Body → ℕ
nesting Empty = 0
nesting (Call t f w) = nesting t
nesting (Literal t n) = nesting t
nesting (Double t n) = nesting t
nesting (Tick t w) = nesting t
nesting (Pair t f w) = nesting t
nesting (IfThen t a) = max (nesting t) (nesting a + 1)
nesting (IfElse t a b) = max (nesting t) (max (nesting a + 1) (nesting b + 1))
nesting (Until t a) = max (nesting t) (nesting a + 1)
nesting (Again t a) = max (nesting t) (nesting a + 1)
nesting (While t a b) = max (nesting t) (max (nesting a + 1) (nesting b + 1))
nesting (Loop t a k) = max (nesting t) (nesting a + 1)
nesting (Text t k bs) = nesting t

abbrev pub all_nesting : Definition → ℕ
all_nesting (Simple t) = nesting t
all_nesting (Doing t a) = max (nesting t) (nesting a)
