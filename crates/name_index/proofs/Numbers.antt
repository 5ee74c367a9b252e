-- The number of bytes that come in two pieces.
use Rattle.std.proofs.Common.{◌≡◌, ℕ, ◌++◌, List}
use Rattle.std.proofs.lemmas.Grind.{fold-append}
use Rattle.name_index.specs.Slots.{number_of}

pub number_pieces : (before : ℕ) (xs ys : List ℕ) → number_of before (xs ++ ys) ≡ number_of (number_of before xs) ys
unfolding number_of
number_pieces before xs ys = fold-append _ before xs ys
