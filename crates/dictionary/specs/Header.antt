use Rattle.std.specs.Prelude.{ℕ, ◌+◌, List, Bool, not, ◌&&◌, ◌==◌, bytes_eq}
use Rattle.std.specs.Int.RustNames.{bit_and}
use Rattle.cells.specs.Cell.{wrap, difference}
use Rattle.memory.specs.Bytes.{byte, cell, bytes}
use Rattle.dictionary.specs.declared.fields.Header.{Header}

-- A header is known by the address l of its link field. The view cell is before it; the count byte, the name and
-- the code field come after it.

-- the block in which the header was made
unfoldable pub view_of : List ℕ → ℕ → ℕ
view_of m l = cell m (difference l 2)

unfoldable pub count_byte : List ℕ → ℕ → ℕ
count_byte m l = byte m (wrap (l + 2))

-- the low five bits of the count byte
unfoldable pub name_length : List ℕ → ℕ → ℕ
name_length m l = bit_and (count_byte m l) 31

-- bit 5
unfoldable pub is_hidden : List ℕ → ℕ → Bool
is_hidden m l = bit_and (count_byte m l) 32 == 32

-- bit 6
unfoldable pub is_immediate : List ℕ → ℕ → Bool
is_immediate m l = bit_and (count_byte m l) 64 == 64

unfoldable pub name_of : List ℕ → ℕ → List ℕ
name_of m l = bytes m (wrap (l + 3)) (name_length m l)

-- the address of the code field, after the name
unfoldable pub compilation_address : List ℕ → ℕ → ℕ
compilation_address m l = wrap (l + (3 + name_length m l))

-- an unhidden header with that name
unfoldable pub is_named : List ℕ → List ℕ → ℕ → Bool
is_named m name l = not (is_hidden m l) && bytes_eq (name_of m l) name

-- the same, if the header at one place counts as hidden
unfoldable pub is_named_but : List ℕ → List ℕ → ℕ → ℕ → Bool
is_named_but m name hidden l = is_named m name l && not (l == hidden)

-- all that a header says: its link names the preceding header of its chain
abbrev pub header_of : List ℕ → ℕ → Header
header_of m l = record {
  view = view_of m l;
  link = cell m l;
  length = name_length m l;
  immediate = is_immediate m l;
  hidden = is_hidden m l;
  compilation_address = compilation_address m l;
}
