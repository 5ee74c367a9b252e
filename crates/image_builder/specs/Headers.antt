-- The headers of an image, as they lie in the memory that it is loaded to.
use Rattle.memory.specs.declared.system.TheConstants.{FORTH_VOC}
use Rattle.std.specs.Prelude.{◌≡◌, ℕ, Bool, false, ◌==◌, ◌&&◌, ◌+◌, ◌*◌, ◌⊎◌, cond, map, length, List, [], ◌∷◌, Option, Some, None}
use Rattle.std.specs.List.{filter}
use Rattle.std.specs.Str.{bytes_eq}
use Rattle.memory.specs.Bytes.{cell, front_put}
use Rattle.memory.specs.Bytes as memory
use Rattle.dictionary.specs.Header.{view_of, is_hidden, name_of, compilation_address}
use Rattle.dictionary.specs.Chain.{chain}
use Rattle.dictionary.specs.Search.{Sought, Found, Nowhere, sought}
use Rattle.image_builder.specs.declared.entry.Kind.{Kind}
use Rattle.image_builder.specs.Places.{Place}
use Rattle.image_builder.specs.Names.{Name, class_of}
use Rattle.image_builder.specs.Items.{Item, Header, Colon, Items, Nothing, Then, current, item_size, image}
use Rattle.image_builder.specs.Built.{IsRecord}

-- the memory that the image of items is loaded to: zeros come after its bytes
abbrev pub memory_of : Items → List ℕ
memory_of t = front_put (image t) memory.zeros

-- the sizes of items
abbrev pub sizes : Items → List ℕ
sizes Nothing = []
sizes (Then t ws i) = item_size i ∷ sizes t

-- a vocabulary: FORTH, whose record is at 42, or one that the items made
abbrev pub IsVocabulary : Items → ℕ → Type 0
IsVocabulary t voc = (voc ≡ FORTH_VOC) ⊎ IsRecord t voc

-- the chain of a class in a vocabulary, cut after 32,769 members
abbrev pub chain_of : List ℕ → (voc class : ℕ) → List ℕ
chain_of m voc class = chain m 32769 (cell m (voc + 2 * class))

-- the link fields of the names of a vocabulary and class, in their order
abbrev pub links_of : (voc class : ℕ) → List Name → List ℕ
links_of voc class names = map (λ n. n.link) (filter (λ n. (n.vocabulary == voc) && (class_of n.name == class)) names)

-- what a search comes to that gives this name
abbrev pub sought_name : Option Name → Sought
sought_name None = Nowhere
sought_name (Some n) = Found n.link

-- the name of an item that makes a header
abbrev pub title : Item → Option Place
title (Header p k) = Some p
title (Colon p b) = Some p
title _ = None

-- an item of this name comes after these items, its header at their end
abbrev pub IsTitled : Items → (before : Items) → Place → Type 0
IsTitled Nothing before p = ⊥
IsTitled (Then t ws i) before p = ((before ≡ t) × (title i ≡ Some p)) ⊎ IsTitled t before p

-- an item that makes a header of this name and kind comes after these items
abbrev pub IsMade : Items → (before : Items) → Place → Kind → Type 0
IsMade Nothing before p k = ⊥
IsMade (Then t ws i) before p k = ((before ≡ t) × (i ≡ Header p k)) ⊎ IsMade t before p k

-- the name of the newest item of a vocabulary that is spelled so
abbrev pub title_before : (in_vocabulary : Bool) → List ℕ → Option Place → (older : Option Place) → Option Place
title_before here bs None older = older
title_before here bs (Some p) older = cond (here && bytes_eq p.name bs) (Some p) older

abbrev pub titled_in : (voc : ℕ) → List ℕ → Items → Option Place
titled_in voc bs Nothing = None
titled_in voc bs (Then t ws i) = title_before (current t == voc) bs (title i) (titled_in voc bs t)

-- the newest one in the current vocabulary, else in FORTH
abbrev pub title_or : Option Place → Option Place → Option Place
title_or None q = q
title_or (Some p) q = Some p

abbrev pub titled : List ℕ → Items → Option Place
titled bs t = title_or (titled_in (current t) bs t) (titled_in FORTH_VOC bs t)

-- what the header with this link field says in a memory
pub record Says (m : List ℕ) (l screen link : ℕ) (name : List ℕ) : Type 0 where
  pub view : view_of m l ≡ screen
  pub links : cell m l ≡ link
  pub shown : is_hidden m l ≡ false
  pub named : name_of m l ≡ name
  pub code_field : compilation_address m l ≡ l + 3 + length name

-- the machine's search finds a header of this name, whose view cell is this screen
abbrev pub HasView : List ℕ → List ℕ → (screen : ℕ) → Type 0
HasView m name screen = (l : ℕ) × (sought m name ≡ Found l) × (view_of m l ≡ screen)
