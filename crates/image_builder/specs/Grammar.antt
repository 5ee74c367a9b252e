-- The words of items, and which items may be where.
use Rattle.std.proofs.Math.Dec.{ltb}
use Rattle.std.specs.Prelude.{◌≡◌, ◌≢◌, ℕ, Bool, true, not, nat_le, nat_lt, ◌==◌, ◌||◌, ◌&&◌, ◌+◌, ◌<◌, ◌≤◌, List, [], ◌∷◌, ◌++◌, map, length, Some, None, Ok}
use Rattle.colon_bodies.specs.Tokens.{SEMI}
use Rattle.colon_bodies.specs.Tree.{all_words, all_nesting}
use Rattle.colon_bodies.specs.declared.words.Half.TheVariants.{Free}
use Rattle.memory.specs.Controls.{number_of}
use Rattle.memory.specs.declared.controls.Control.TheVariants as ctl
use Rattle.memory.specs.declared.limit.TheConstants.{GREATEST_LIMIT}
use Rattle.image_builder.specs.Places.{Place}
use Rattle.image_builder.specs.Names.{Name, address}
use Rattle.image_builder.specs.Items.{Item, Header, Colon, Cell, Byte, Allot, Immediate, Definitions, Boot, Items, Nothing, Then, item_size, end_of, names, controls, boot}
use Rattle.image_builder.specs.declared.entry.Kind.TheVariants.{Primitive, Constant, Variable, Create, Vocabulary}
use Rattle.image_builder.specs.declared.entry.Lead.{Lead}
use Rattle.image_builder.specs.declared.entry.Lead.TheVariants.{Makes, Defines, Starts}
use Rattle.image_builder.specs.declared.source.TheConstants.{PRIMITIVES_END, CONTROLS_END}
use Rattle.image_builder.specs.declared.spot.Sort.{Sort}
use Rattle.colon_bodies.specs.Rules as rules
use Rattle.colon_bodies.specs.Tokens as tokens
use Rattle.image_builder.specs.declared.spot.Sort.TheVariants as s
use Rattle.image_builder.specs.Meanings.{look, record_named, meanings}

-- numbers that no primitive has
abbrev pub is_gap : ℕ → Bool
is_gap n =
    (ltb 27 n && ltb n 32) || (ltb 45 n && ltb n 48) || (ltb 90 n && ltb n 96) || (ltb 107 n && ltb n 112)
    || (ltb 121 n && ltb n 128) || (ltb 134 n && ltb n 144) || (ltb 157 n && ltb n 168) || (ltb 197 n && ltb n 200)

-- a number of a primitive that may be named
abbrev pub may_name : Items → ℕ → Bool
may_name t n = nat_le (number_of ctl.Exit) n && nat_lt n PRIMITIVES_END && not (is_gap n) && (nat_le CONTROLS_END n || controls t n == 0)

-- the words are one, or two, of these sorts
abbrev pub One : List Place → Sort → Type 0
One ws s = (a : Place) × (ws ≡ a ∷ []) × (a.sort ≡ s)

abbrev pub Two : List Place → Sort → Sort → Type 0
Two ws s u = (a : Place) × (b : Place) × (ws ≡ a ∷ b ∷ []) × (a.sort ≡ s) × (b.sort ≡ u)

-- what leads up to a name
abbrev pub Leads : Lead → List Place → Type 0
Leads (Makes (Primitive n)) ws = Two ws (s.Number n) s.Prim
Leads (Makes (Constant n)) ws = Two ws (s.Number n) s.Constant
Leads (Makes Variable) ws = One ws s.Variable
Leads (Makes Create) ws = One ws s.Create
Leads (Makes Vocabulary) ws = One ws s.Vocabulary
Leads Defines ws = One ws s.Colon
Leads Starts ws = One ws s.Boot

-- what may follow what leads up to it
abbrev pub IsOpen : Items → Lead → Type 0
IsOpen t (Makes (Primitive n)) = may_name t n ≡ true
IsOpen t Starts = boot t ≡ None
IsOpen t _ = Unit {0}

-- an item's words
abbrev pub Spells : Items → List Place → Item → Type 0
Spells t ws (Header p k) = (front : List Place) × (ws ≡ front ++ p ∷ []) × Leads (Makes k) front
Spells t ws (Colon p b) = (front : List Place) × (inner : List Place) × (ws ≡ front ++ p ∷ inner) × Leads Defines front × (meanings Free t inner ≡ map (λ w. Ok w) (all_words b ++ SEMI ∷ []))
Spells t ws (Cell n) = Two ws (s.Number n) s.Comma
Spells t ws (Byte n) = Two ws (s.Number n) s.CharComma
Spells t ws (Allot n) = Two ws (s.Number n) s.Allot
Spells t ws Immediate = One ws s.Immediate
Spells t ws (Definitions v) = (a : Place) × (b : Place) × (ws ≡ a ∷ b ∷ []) × (a.sort ≡ s.Other) × (record_named t a ≡ Some v) × (b.sort ≡ s.Definitions)
Spells t ws (Boot w) = (front : List Place) × (p : Place) × (n : Name) × (ws ≡ front ++ p ∷ []) × Leads Starts front × (look t p ≡ Some n) × (w ≡ address n)

-- an item that may come after these
abbrev pub Fits : Items → Item → Type 0
Fits t (Header p k) = (length p.name < 32) × IsOpen t (Makes k)
Fits t (Colon p b) = (length p.name < 32) × (all_nesting b ≤ 64) × rules.AreKnown (controls t) (all_words b ++ SEMI ∷ []) × tokens.AreShort (all_words b)
Fits t (Allot n) = n < 32768
Fits t Immediate = names t ≢ []
Fits t (Boot w) = boot t ≡ None
Fits t _ = Unit {0}

-- a limit that an image may have
abbrev pub IsLimit : ℕ → Type 0
IsLimit limit = (256 ≤ limit) × (limit ≤ GREATEST_LIMIT)

-- an item after others: its words, what it needs, and its room
pub record IsSound (limit : ℕ) (t : Items) (ws : List Place) (i : Item) : Type 0 where
  pub spells : Spells t ws i
  pub fits : Fits t i
  pub room : end_of t + item_size i ≤ limit

abbrev pub AreSound : (limit : ℕ) → Items → Type 0
AreSound limit Nothing = Unit {0}
AreSound limit (Then t ws i) = AreSound limit t × IsSound limit t ws i

-- the items of an image, which ends at some limit at the latest
abbrev pub MakeImage : Items → Type 0
MakeImage t = (limit : ℕ) × IsLimit limit × AreSound limit t
