use Rattle.std.proofs.Common.{◌≡◌, ℕ, ◌+◌, ◌<◌, ◌≤◌, ◌∙◌, List, length, take, slice_index, slice_set, sym}
use Rattle.std.proofs.lemmas.List.{take_more, take_more_set, take_all}

-- a copy with one byte more
pub copied_more : (copy s : List ℕ) (i b : ℕ) → take i copy ≡ take i s → b ≡ slice_index s i → i < length s → i < length copy →
    take (i + 1) (slice_set copy i b) ≡ take (i + 1) s
copied_more copy s i b e q h k = take_more_set copy i b k ∙ rw (e, q) (sym (take_more s i 0 h))

pub copied_all : (s : List ℕ) (n : ℕ) → length s ≤ n → take n s ≡ s
copied_all s n h = take_all n s h
