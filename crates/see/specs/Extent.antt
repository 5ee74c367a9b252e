-- Where the thread of a word is.
use Rattle.std.specs.Prelude.{ℕ, zero, suc, ◌+◌, ◌-◌, ◌*◌, List, [], ◌∷◌, ◌++◌}
use Rattle.cells.specs.Cell.{wrap}
use Rattle.memory.specs.Bytes.{cell, bytes}
use Rattle.memory.specs.declared.system.TheConstants.{RUNTIME_CELLS}
use Rattle.dictionary.specs.Header.{compilation_address}
use Rattle.dictionary.specs.Order.{headers}
use Rattle.dictionary.specs.Extents.{extent_end}
use Rattle.image_builder.specs.declared.source.TheConstants.{CONTROLS_END}

-- the address after a header's code field
unfoldable pub parameter_field : List ℕ → ℕ → ℕ
parameter_field m l = wrap (compilation_address m l + 2)

-- the bytes from p to the next header of any vocabulary, or to DP; none if that isn't above it
unfoldable pub extent : List ℕ → ℕ → List ℕ
extent m p = bytes m p (extent_end m (headers m) p - p)

-- the first n runtime cells: that of control primitive k holds its compilation address, 0 if it has none
unfoldable pub first_controls : List ℕ → ℕ → List ℕ
first_controls m zero = []
first_controls m (suc n) = first_controls m n ++ cell m (RUNTIME_CELLS + 2 * n) ∷ []

-- all of them
unfoldable pub controls_of : List ℕ → List ℕ
controls_of m = first_controls m CONTROLS_END
