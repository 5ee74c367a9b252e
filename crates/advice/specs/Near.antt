-- Names that were mistyped.
use Rattle.std.specs.Prelude.{◌≡◌, ◌≢◌, ◌<◌, ℕ, List, [], ◌∷◌, Bool, true, false, ◌&&◌, ◌||◌, ◌==◌, nat_le, if◌then◌else◌, length, slice_index}
use Rattle.std.specs.Str.{bytes_eq}

-- a text is this letter with the other text after it
abbrev pub is_one_more : (text : List ℕ) → (letter : ℕ) → (after : List ℕ) → Bool
is_one_more [] letter after = false
is_one_more (a ∷ text) letter after = (a == letter) && bytes_eq text after

-- two texts, each after a letter, are the same if the first two letters of one change places
abbrev pub is_turned : (a : ℕ) → (one : List ℕ) → (b : ℕ) → (other : List ℕ) → Bool
is_turned a [] b other = false
is_turned a (c ∷ one) b [] = false
is_turned a (c ∷ one) b (d ∷ other) = (a == d) && ((b == c) && bytes_eq one other)

-- two texts that begin with other letters differ by one letter more, less or other, or by two neighbors that change places
abbrev pub differs_here : (a : ℕ) → (one : List ℕ) → (b : ℕ) → (other : List ℕ) → Bool
differs_here a one b other = bytes_eq one other || (is_one_more one b other || (is_one_more other a one || is_turned a one b other))

-- two texts differ so, after the letters at their beginning that are the same; or not at all
unfoldable pub differs_once : (one other : List ℕ) → Bool
differs_once [] other = nat_le (length other) 1
differs_once (_ ∷ one) [] = nat_le (length one) 0
differs_once (a ∷ one) (b ∷ other) = if a == b then differs_once one other else differs_here a one b other

-- the same of two names that have three letters or more
abbrev pub is_near : (one other : List ℕ) → Bool
is_near one other = nat_le 3 (length one) && (nat_le 3 (length other) && differs_once one other)

-- the letters at these places are not the same, if there are both
abbrev pub PartAt : (one other : List ℕ) → (place : ℕ) → Type 0
PartAt one other place = place < length one → place < length other → slice_index one place ≢ slice_index other place
