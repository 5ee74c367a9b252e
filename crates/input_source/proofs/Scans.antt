use Rattle.std.proofs.Common.{◌≡◌, ◌≢◌, ℕ, ◌+◌, ◌<◌, ◌≤◌, List, length, slice_index, arith}
use Rattle.std.proofs.lemmas.Grind.{common_steps}
use Rattle.std.proofs.lemmas.List.{drop_more, drop_all}
use Rattle.input_source.specs.Words.{word_start, next_delimiter}

pub start_later : (s : List ℕ) (i c : ℕ) → i < length s → slice_index s i ≡ c → word_start s i c ≡ word_start s (i + 1) c
unfolding word_start
start_later s i c h q = rw (drop_more s i 0 h) (grind (arith, common_steps))

pub start_here : (s : List ℕ) (i c : ℕ) → i < length s → slice_index s i ≢ c → word_start s i c ≡ i
unfolding word_start
start_here s i c h q = rw (drop_more s i 0 h) (grind (arith, common_steps))

pub start_end : (s : List ℕ) (i c : ℕ) → length s ≤ i → word_start s i c ≡ i
unfolding word_start
start_end s i c h = rw (drop_all i s h) (omega arith)

pub ruleset starts = (start_later, start_here, start_end)

pub delimiter_later : (s : List ℕ) (i c : ℕ) → i < length s → slice_index s i ≢ c → next_delimiter s i c ≡ next_delimiter s (i + 1) c
unfolding next_delimiter
delimiter_later s i c h q = rw (drop_more s i 0 h) (grind (arith, common_steps))

pub delimiter_here : (s : List ℕ) (i c : ℕ) → i < length s → slice_index s i ≡ c → next_delimiter s i c ≡ i
unfolding next_delimiter
delimiter_here s i c h q = rw (drop_more s i 0 h) (grind (arith, common_steps))

pub delimiter_end : (s : List ℕ) (i c : ℕ) → length s ≤ i → next_delimiter s i c ≡ i
unfolding next_delimiter
delimiter_end s i c h = rw (drop_all i s h) (omega arith)

pub ruleset ends = (delimiter_later, delimiter_here, delimiter_end)
