-- Words of a source.
use Rattle.std.specs.Prelude.{◌≡◌, ℕ, List}
use Rattle.colon_bodies.specs.Draft.{token}
use Rattle.colon_bodies.specs.Meaning.{Sense, Plain, Keyword, Figure, Wide, Remark}
use Rattle.image_builder.specs.declared.spot.Sort.{Sort}
use Rattle.image_builder.specs.declared.spot.Inner.{Inner}
use Rattle.image_builder.specs.declared.spot.Inner.TheVariants as i
use Rattle.image_builder.specs.declared.spot.Spot.{Spot}

-- what a word is in a body if it is no name, without where its text is in memory
abbrev pub sense : Inner → Sense
sense i.Other = Plain
sense (i.Keyword w) = Keyword (token w)
sense (i.Number n) = Figure n
sense (i.Double n) = Wide n
sense i.Paren = Remark

-- a word with where it is, and what it is outside bodies and in them
pub record Place : Type 0 where
  pub screen : ℕ
  pub offset : ℕ
  pub name : List ℕ
  pub sort : Sort
  pub inner : Sense

-- this is the screen and these are the bytes of a word
abbrev pub IsTitle : (screen : ℕ) → List ℕ → Place → Type 0
IsTitle screen name p = (p.screen ≡ screen) × (p.name ≡ name)

abbrev pub place : Spot → Place
place s = record { screen = s.screen; offset = s.offset; name = s.name.now; sort = s.sort; inner = sense s.inner }
