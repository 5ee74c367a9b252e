-- Names that were made, newest first, and searches of them.
use Rattle.memory.specs.declared.system.TheConstants.{FORTH_VOC}
use Rattle.std.specs.Prelude.{◌≡◌, ℕ, Bool, ◌==◌, ◌&&◌, ◌%◌, ◌+◌, map, reverse, List, [], ◌∷◌, ◌++◌, length, Option, Some, None}
use Rattle.std.specs.Str.{bytes_eq}
use Rattle.std.specs.List.{find}
use Rattle.image_builder.specs.declared.entry.Sign.{Sign}
use Rattle.image_builder.specs.declared.entry.Entry.{Entry}
use Rattle.image_builder.specs.declared.entry.Named.{Named}

-- a name that was made, with its vocabulary and link field
pub record Name : Type 0 where
  pub name : List ℕ
  pub vocabulary : ℕ
  pub link : ℕ
  pub immediate : Bool
  pub sign : Sign

abbrev pub entry : Entry → Name
entry e = record { name = e.name.now; vocabulary = e.vocabulary; link = e.link; immediate = e.immediate; sign = e.sign }

abbrev pub stored : Named → Name
stored e = record { name = e.name.items; vocabulary = e.vocabulary; link = e.link; immediate = e.immediate; sign = e.sign }

abbrev pub newest_first : List Named → List Name
newest_first es = map stored (reverse es)

-- the compilation address
abbrev pub address : Name → ℕ
address n = n.link + 3 + length n.name

abbrev pub class_of : List ℕ → ℕ
class_of [] = 0
class_of (b ∷ bs) = b % 4

-- the newest name of a vocabulary that is spelled so
abbrev pub within : (voc : ℕ) → List ℕ → List Name → Option Name
within voc bs names = find (λ n. (n.vocabulary == voc) && bytes_eq n.name bs) names

-- a name among these that no newer one of its vocabulary hides
abbrev pub IsLatest : Name → List Name → Type 0
IsLatest n names = (newer older : List Name) × (names ≡ newer ++ n ∷ older) × (within n.vocabulary n.name newer ≡ None)

abbrev pub or_older : Option Name → Option Name → Option Name
or_older None b = b
or_older (Some a) b = Some a

-- the newest name in a vocabulary, else in FORTH
abbrev pub found : (voc : ℕ) → List ℕ → List Name → Option Name
found voc bs names = or_older (within voc bs names) (within FORTH_VOC bs names)

-- the newest name of a vocabulary and class
abbrev pub newest_of : (voc class : ℕ) → List Name → Option Name
newest_of voc class names = find (λ n. (n.vocabulary == voc) && (class_of n.name == class)) names

abbrev pub link_or_none : Option Name → ℕ
link_or_none None = 0
link_or_none (Some n) = n.link

-- the head of a chain: its link field, 0 if there is none
abbrev pub newest_link : List Name → (voc class : ℕ) → ℕ
newest_link names voc class = link_or_none (newest_of voc class names)
