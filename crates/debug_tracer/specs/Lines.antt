-- The line of a tick.
use Rattle.std.specs.Prelude.{ℕ, List, [], ◌∷◌, ◌++◌, reverse, Option, Some, None, codes}
use Rattle.std.specs.List.{flat_map}
use Rattle.std.specs.Fmt.{decimal, signed_decimal}
use Rattle.cells.specs.Cell.{signed}
use Rattle.memory.specs.Bytes.{cell}
use Rattle.dictionary.specs.Header.{name_of}
use Rattle.dictionary.specs.Extents.{header_at}
use Rattle.machine_parts.specs.Whole.{Whole}

-- a header's name in memory m, or `?`
abbrev pub name_if : List ℕ → Option ℕ → List ℕ
name_if m (Some l) = name_of m l
name_if m None = codes "?"

-- the name of an address: that of the lowest of the headers that has it as compilation address, or `?`
unfoldable pub name_at : List ℕ → List ℕ → ℕ → List ℕ
name_at m headers w = name_if m (header_at m headers w)

unfoldable pub blank : List ℕ
blank = codes " "

unfoldable pub bar : List ℕ
bar = codes " |"

unfoldable pub line_end : List ℕ
line_end = 10 ∷ []

-- a cell after a blank, as a signed decimal and as an unsigned one
abbrev pub signed_text : ℕ → List ℕ
signed_text x = blank ++ signed_decimal (signed x)

abbrev pub unsigned_text : ℕ → List ℕ
unsigned_text x = blank ++ decimal x

-- where the token is, and its name as it was at the start
abbrev pub place_text : List ℕ → List ℕ → Whole → List ℕ
place_text m headers s = decimal s.ip ++ (blank ++ name_at m headers (cell s.memory s.ip))

-- the data stack and the return stack, from the bottom
abbrev pub values_text : List ℕ → List ℕ
values_text values = flat_map signed_text (reverse values)

abbrev pub returns_text : List ℕ → List ℕ
returns_text returns = flat_map unsigned_text (reverse returns)

-- `334 DUP | 0 -1 | 0 369`: the line of a tick, with the names of memory m
unfoldable pub line : List ℕ → List ℕ → Whole → List ℕ
line m headers s =
    place_text m headers s ++ (bar ++ (values_text s.values ++ (bar ++ (returns_text s.returns ++ line_end))))
