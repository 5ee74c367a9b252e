-- What is started of an item.
use Rattle.std.specs.Prelude.{◌≡◌, ℕ, ◌+◌, ◌<◌, List, [], ◌∷◌, ◌++◌, map, length, Some, Ok}
use Rattle.colon_bodies.specs.Tokens.{Token}
use Rattle.colon_bodies.specs.declared.words.Half.TheVariants.{Free}
use Rattle.image_builder.specs.Places.{Place}
use Rattle.image_builder.specs.Items.{Items, item_words, head_size, end_of, controls}
use Rattle.image_builder.specs.declared.entry.Lead.{Lead}
use Rattle.image_builder.specs.declared.entry.Lead.TheVariants.{Defines}
use Rattle.colon_bodies.specs.Faults as body
use Rattle.image_builder.specs.declared.spot.Sort.TheVariants as s
use Rattle.image_builder.specs.Meanings.{record_named, meanings}
use Rattle.image_builder.specs.Grammar.{One, Leads, IsOpen, AreSound}

-- What is started of an item: nothing, a number, what leads up to a name, a vocabulary's name, or a definition with these words.
pub data Stage : Type 0 where
  Whole : Stage
  Counted : (n : ℕ) → Stage
  Due : Lead → Stage
  Chosen : (v : ℕ) → Stage
  Inside : (name : Place) → (before : List Token) → Stage

-- where the body begins
abbrev pub body_at : Items → Place → ℕ
body_at t p = end_of t + head_size p

-- a definition is started: its name, and words of its body that nothing is wrong with
pub record IsInside (limit : ℕ) (t : Items) (ws : List Place) (p : Place) (before : List Token) : Type 0 where
  pub front : List Place
  pub inner : List Place
  pub is : ws ≡ front ++ p ∷ inner
  pub leads : Leads Defines front
  pub short : length p.name < 32
  pub means : meanings Free t inner ≡ map (λ w. Ok w) before
  pub fits : body.IsFront (controls t) (body_at t p) limit before

-- these words begin an item
abbrev pub Begun : (limit : ℕ) → Items → List Place → Stage → Type 0
Begun limit t ws Whole = ws ≡ []
Begun limit t ws (Counted n) = One ws (s.Number n)
Begun limit t ws (Due l) = Leads l ws × IsOpen t l
Begun limit t ws (Chosen v) = (a : Place) × (ws ≡ a ∷ []) × (a.sort ≡ s.Other) × (record_named t a ≡ Some v)
Begun limit t ws (Inside p before) = IsInside limit t ws p before

-- Nothing is wrong with these words: they are whole items, and at most one started.
pub record IsFront (limit : ℕ) (front : List Place) (t : Items) (ws : List Place) (stage : Stage) : Type 0 where
  pub is : front ≡ item_words t ++ ws
  pub sound : AreSound limit t
  pub begun : Begun limit t ws stage
