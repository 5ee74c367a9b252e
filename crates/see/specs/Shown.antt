-- What the decompiler shows.
use Rattle.std.specs.Prelude.{◌≡◌, ◌≢◌, ℕ, ◌+◌, ◌≤◌, List, [], ◌∷◌, ◌++◌}
use Rattle.memory.specs.Controls.{number_of}
use Rattle.memory.specs.declared.controls.Control.TheVariants as ctl
use Rattle.colon_bodies.specs.Tokens.{Token, SEMI, laid, AreShort}
use Rattle.colon_bodies.specs.Tree.{Definition, all_words, all_nesting}
use Rattle.colon_bodies.specs.Code.{whole_code}
use Rattle.colon_bodies.specs.Rules.{AreKnown}
use Rattle.colon_bodies.specs.Plain.{AreApart, IsPlainDefinition}

-- these bytes are the thread of a plain definition, whose structures lie at most 64 deep and whose texts have at most 255 bytes
pub record IsThread (rt : ℕ → ℕ) (at : ℕ) (bytes : List ℕ) (d : Definition) : Type 0 where
  pub plain : IsPlainDefinition rt d
  pub exit : rt (number_of ctl.Exit) ≢ 0
  pub shallow : all_nesting d ≤ 64
  pub short : AreShort (all_words d)
  pub is : whole_code rt d at ≡ bytes

-- and these are its words, and ;
pub record Shown (rt : ℕ → ℕ) (at : ℕ) (bytes : List ℕ) (shown : List Token) : Type 0 where
  pub body : Definition
  pub words_are : shown ≡ all_words body ++ SEMI ∷ []
  pub is : IsThread rt at bytes body

-- each definition of which these bytes are the thread, if no two runtime cells are equal and not 0
abbrev pub OfThread : (ℕ → ℕ) → (at : ℕ) → List ℕ → (Definition → Type 0) → Type 0
OfThread rt at bytes P = AreApart rt → (d : Definition) → IsThread rt at bytes d → P d

-- words that are compiled to these bytes
pub record Makes (rt : ℕ → ℕ) (at : ℕ) (bytes : List ℕ) (words : List Token) : Type 0 where
  pub body : Definition
  pub words_are : words ≡ all_words body ++ SEMI ∷ []
  pub bytes_are : bytes ≡ whole_code rt body at
  pub shallow : all_nesting body ≤ 64
  pub known : AreKnown rt (all_words body ++ SEMI ∷ [])
  pub short : AreShort (all_words body)

-- within the bounds of what a source may define: its structures lie at most 64 deep, each control that it writes is named, and its
-- texts have at most 255 bytes
pub record IsWithinBounds (rt : ℕ → ℕ) (d : Definition) : Type 0 where
  pub shallow : all_nesting d ≤ 64
  pub known : AreKnown rt (all_words d ++ SEMI ∷ [])
  pub short : AreShort (all_words d)

-- a definition that can be compiled
pub record Compiles (rt : ℕ → ℕ) (at limit : ℕ) (d : Definition) : Type 0 where
  pub shallow : all_nesting d ≤ 64
  pub known : AreKnown rt (all_words d ++ SEMI ∷ [])
  pub short : AreShort (all_words d)
  pub room : at + laid (all_words d ++ SEMI ∷ []) ≤ limit
