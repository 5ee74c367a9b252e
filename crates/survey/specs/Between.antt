-- What comes between the items of a list.
use Rattle.std.specs.Prelude.{ℕ, zero, suc, List, []}

-- what comes before the item of an index: nothing before the first one
abbrev pub between : (index : ℕ) → (text : List ℕ) → List ℕ
between zero text = []
between (suc before) text = text
