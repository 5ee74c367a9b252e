-- What is kept while items are read.
use Rattle.std.specs.Prelude.{◌≡◌, ℕ, false, ◌+◌, ◌⊎◌, ◌∷◌, ◌++◌, length, slice_index}
use Rattle.image_builder.specs.declared.state.Build.{Build}
use Rattle.image_builder.specs.declared.entry.Sign.{Sign}
use Rattle.image_builder.specs.declared.entry.Kind.TheVariants.{Vocabulary}
use Rattle.image_builder.specs.Places.{Place}
use Rattle.image_builder.specs.Names.{newest_first, newest_link}
use Rattle.image_builder.specs.Items.{Items, Nothing, Then, Item, Header, head, head_size, link_of, new_name, items_bytes, heads_of, names, controls, current, newest_record, boot, end_of}
use Rattle.image_builder.specs.Grammar.{IsLimit, AreSound}

pub record Built (limit : ℕ) (b : Build) (t : Items) : Type 0 where
  pub limit_is : b.limit ≡ limit
  pub limited : IsLimit limit
  pub laid : b.image.items ≡ items_bytes (heads_of t) t false
  pub named : newest_first b.names.items ≡ names t
  pub runtime : slice_index b.runtime.items ≡ controls t
  pub all : length b.runtime.items ≡ 256
  pub current_is : b.current ≡ current t
  pub record_is : b.newest_record ≡ newest_record t
  pub boot_is : b.boot ≡ boot t

-- some sound items were built, by its own limit
pub record Building (b : Build) : Type 0 where
  pub items : Items
  pub is : Built b.limit b items
  pub sound : AreSound b.limit items

-- the record of a vocabulary
abbrev pub OwnRecord : Items → Item → ℕ → Type 0
OwnRecord t (Header p Vocabulary) v = v ≡ end_of t + head_size p
OwnRecord t _ v = ⊥

abbrev pub IsRecord : Items → ℕ → Type 0
IsRecord Nothing v = ⊥
IsRecord (Then t ws i) v = OwnRecord t i v ⊎ IsRecord t v

-- the state after a header's code field
pub record Headed (limit : ℕ) (b : Build) (t : Items) (p : Place) (sign : Sign) (code : ℕ) : Type 0 where
  pub limit_is : b.limit ≡ limit
  pub limited : IsLimit limit
  pub laid : b.image.items ≡ items_bytes (newest_link (new_name t p sign ∷ names t)) t false ++ head (link_of t p) p false code
  pub named : newest_first b.names.items ≡ new_name t p sign ∷ names t
  pub runtime : slice_index b.runtime.items ≡ controls t
  pub all : length b.runtime.items ≡ 256
  pub current_is : b.current ≡ current t
  pub record_is : b.newest_record ≡ newest_record t
  pub boot_is : b.boot ≡ boot t
