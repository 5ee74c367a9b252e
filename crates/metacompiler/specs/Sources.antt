-- Screens that hold colon definitions alone, and the memory with all of them.
use Rattle.std.specs.Prelude.{◌≡◌, ◌≤◌, ◌<◌, ◌+◌, ℕ, false, true, List, [], ◌∷◌, ◌++◌, length, None}
use Rattle.memory.specs.Bytes.{cell}
use Rattle.memory.specs.declared.system.TheConstants.{DP, CURRENT}
use Rattle.colon_bodies.specs.Tokens.{SEMI, AreShort}
use Rattle.colon_bodies.specs.Tree.{Definition, all_words, all_nesting}
use Rattle.colon_bodies.specs.Code.{all_size}
use Rattle.colon_bodies.specs.declared.words.Half.TheVariants.{Free}
use Rattle.source_words.specs.Modes.{begins_body, begins_comment}
use Rattle.source_words.specs.Words.{SourceWord}
use Rattle.image_builder.specs.Spelled.{keyword}
use Rattle.resident_bodies.specs.Definitions.{laid_definition}
use Rattle.metacompiler.specs.Meaning.{Means}

-- a definition: the screen of its name, the name, and what is after it
pub record ColonDefinition : Type 0 where
  pub screen : ℕ
  pub title : List ℕ
  pub body : Definition

-- memory with one definition more, and with more of them
abbrev pub laid_one : List ℕ → ColonDefinition → List ℕ
laid_one m e = laid_definition m e.screen e.title e.body

abbrev pub laid_all : List ℕ → List ColonDefinition → List ℕ
laid_all m [] = m
laid_all m (e ∷ es) = laid_all (laid_one m e) es

-- a name that is neither a keyword nor `:`
pub record IsFree (name : List ℕ) : Type 0 where
  pub colon : begins_body name ≡ false
  pub comment : begins_comment name ≡ false
  pub keyword_none : (text : List ℕ) → keyword name text ≡ None

-- These words begin with a definition, which fits below the limit; its words are looked up in the memory before it. No
-- `:` is the last word of its screen.
pub record Defines (limit : ℕ) (m : List ℕ) (ws : List SourceWord) (e : ColonDefinition) (rest : List SourceWord)
    : Type 0 where
  pub colon : SourceWord
  pub name : SourceWord
  pub inner : List SourceWord
  pub is : ws ≡ colon ∷ name ∷ inner
  pub begins : begins_body colon.name ≡ true
  pub beside : name.screen ≡ colon.screen
  pub screen : name.screen ≡ e.screen
  pub title : name.name ≡ e.title
  pub short : length e.title < 32
  pub free : IsFree e.title
  pub means : Means m (cell m CURRENT) Free inner (all_words e.body ++ SEMI ∷ []) rest
  pub shallow : all_nesting e.body ≤ 64
  pub texts : AreShort (all_words e.body)
  pub room : cell m DP + (7 + length e.title + (all_size e.body + 2)) ≤ limit

-- the words of screens are these definitions, one after the other
abbrev pub AreDefined : (limit : ℕ) → List ℕ → List SourceWord → List ColonDefinition → Type 0
AreDefined limit m ws [] = ws ≡ []
AreDefined limit m ws (e ∷ es) =
    (rest : List SourceWord) × Defines limit m ws e rest × AreDefined limit (laid_one m e) rest es
