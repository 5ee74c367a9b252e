-- Which words may be where.
use Rattle.std.specs.Prelude.{ℕ, Bool, true, false, ◌==◌, List, [], ◌∷◌, ◌≢◌, Option, Some, None}
use Rattle.colon_bodies.specs.Tokens.{Token, control_written, NAME, NUMBER, DOUBLE, TEXT, TICK, FORCE, COMPILE, IF, ELSE, THEN, BEGIN, UNTIL, AGAIN, WHILE, REPEAT, DO, LOOP, DOES, SEMI}
use Rattle.colon_bodies.specs.declared.words.Half.{Half}
use Rattle.colon_bodies.specs.declared.words.Half.TheVariants.{Free, Ticked, Forced, Compiling, Both}

-- it has a name
abbrev pub HasCell : (ℕ → ℕ) → Option ℕ → Type 0
HasCell rt None = Unit {0}
HasCell rt (Some k) = rt k ≢ 0

abbrev pub IsKnown : (ℕ → ℕ) → Token → Type 0
IsKnown rt w = HasCell rt (control_written w)

-- it has none
abbrev pub is_missing : (ℕ → ℕ) → Option ℕ → Bool
is_missing rt None = false
is_missing rt (Some k) = rt k == 0

abbrev pub AreKnown : (ℕ → ℕ) → List Token → Type 0
AreKnown rt [] = Unit {0}
AreKnown rt (w ∷ ws) = IsKnown rt w × AreKnown rt ws

-- what words leave half read
abbrev pub half_after : Half → Token → Half
half_after Free TICK = Ticked
half_after Free FORCE = Forced
half_after Free COMPILE = Compiling
half_after Compiling FORCE = Both
half_after _ _ = Free

abbrev pub half_of : Half → List Token → Half
half_of h [] = h
half_of h (w ∷ ws) = half_of (half_after h w) ws

-- whether a word may come after it
abbrev pub suits : Half → Token → Bool
suits Free w = true
suits h (NAME w) = true
suits Compiling FORCE = true
suits _ _ = false

abbrev pub has_does : List Token → Bool
has_does [] = false
has_does (DOES ∷ ws) = true
has_does (_ ∷ ws) = has_does ws

-- The structures that are open after one more word, the innermost first, each by its last word: IF, ELSE, BEGIN, WHILE or DO. None if the word fits
-- nowhere.
abbrev pub opens : Option (List Token) → Token → Option (List Token)
opens (Some os) IF = Some (IF ∷ os)
opens (Some os) BEGIN = Some (BEGIN ∷ os)
opens (Some os) DO = Some (DO ∷ os)
opens (Some (IF ∷ os)) ELSE = Some (ELSE ∷ os)
opens (Some (IF ∷ os)) THEN = Some os
opens (Some (ELSE ∷ os)) THEN = Some os
opens (Some (BEGIN ∷ os)) UNTIL = Some os
opens (Some (BEGIN ∷ os)) AGAIN = Some os
opens (Some (BEGIN ∷ os)) WHILE = Some (WHILE ∷ os)
opens (Some (WHILE ∷ os)) REPEAT = Some os
opens (Some (DO ∷ os)) (LOOP k) = Some os
opens (Some []) DOES = Some []
opens (Some []) SEMI = Some []
opens (Some os) (NAME w) = Some os
opens (Some os) (NUMBER n) = Some os
opens (Some os) (DOUBLE n) = Some os
opens (Some os) (TEXT k bs) = Some os
opens (Some os) TICK = Some os
opens (Some os) FORCE = Some os
opens (Some os) COMPILE = Some os
opens _ _ = None

-- and after all the words of a list
abbrev pub opened : Option (List Token) → List Token → Option (List Token)
opened os [] = os
opened os (w ∷ ws) = opened (opens os w) ws
