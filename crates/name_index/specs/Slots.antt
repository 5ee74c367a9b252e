use Rattle.std.specs.Prelude.{ℕ, ◌+◌, ◌*◌, ◌%◌, List, fold, slice_index}
use Rattle.cells.specs.Cell.{wrap}

-- Each name has a slot of the table. It says the name's class: the rest of the slot by four.

-- a number of bytes, from the number of those before them on
unfoldable pub number_of : ℕ → List ℕ → ℕ
number_of before bs = fold (λ n b. wrap (wrap (n * 37) + b)) before bs

-- the first byte modulo 4
unfoldable pub class_of : List ℕ → ℕ
class_of name = slice_index name 0 % 4

-- the slot, among those of a class, of names with that number
unfoldable pub slot_in : ℕ → List ℕ → ℕ
slot_in class name = 4 * (number_of 0 name % 2048) + class

unfoldable pub slot_of : List ℕ → ℕ
slot_of name = slot_in (class_of name) name
