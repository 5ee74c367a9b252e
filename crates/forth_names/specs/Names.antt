-- The names that a Forth knows, as a text.
use Rattle.std.specs.Prelude.{ℕ, List, [], ◌∷◌, ◌++◌}
use Rattle.std.specs.List.{flat_map}
use Rattle.dictionary.specs.Header.{name_of}
use Rattle.dictionary.specs.Order.{members_of}
use Rattle.memory.specs.declared.system.TheConstants.{FORTH_VOC}

-- the name of a header, and a blank
unfoldable pub listed_name : List ℕ → ℕ → List ℕ
listed_name m l = name_of m l ++ 32 ∷ []

-- those of the chains of the vocabulary FORTH, the newest of each first
unfoldable pub listed_names : List ℕ → List ℕ
listed_names m = flat_map (listed_name m) (members_of m FORTH_VOC)
