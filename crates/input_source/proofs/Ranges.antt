use Rattle.std.proofs.Common.{◌≡◌, ℕ, ◌+◌, ◌<◌, ◌≤◌, ◌∙◌, List, length, take, drop, slice_index, arith, sym, ap}
use Rattle.std.proofs.lemmas.Grind.{common_steps, get_or_default_zero}
use Rattle.std.proofs.lemmas.List.{get_or-take, get_or-drop, same_lists}
use Rattle.cells.specs.Cell.{wrap}
use Rattle.memory.specs.Bytes.{byte, bytes}
use Rattle.memory.proofs.Ranges.{length-bytes, byte-bytes}

length-part : (s : List ℕ) (i n : ℕ) → i + n ≤ length s → length (take n (drop i s)) ≡ n
length-part s i n h = grind (arith, common_steps)

part_at : (s : List ℕ) (i n k : ℕ) → k < n → slice_index (take n (drop i s)) k ≡ slice_index s (i + k)
part_at s i n k h = get_or-take n (drop i s) k 0 h ∙ get_or-drop i s k 0

-- a part of a range of memory is a range of its own
pub bytes_part : (m : List ℕ) (a s i n : ℕ) → length m ≡ 65536 → a < 65536 → s ≤ 65536 → i + n ≤ s →
    bytes m (wrap (a + i)) n ≡ take n (drop i (bytes m a s))
bytes_part m a s i n l h q r =
    let whole : length (bytes m a s) ≡ s = length-bytes m a s l q in
    let some : length (bytes m (wrap (a + i)) n) ≡ n = length-bytes m (wrap (a + i)) n l (omega arith) in
    let part : length (take n (drop i (bytes m a s))) ≡ n = length-part (bytes m a s) i n (omega arith) in
    same_lists (bytes m (wrap (a + i)) n) (take n (drop i (bytes m a s))) (some ∙ sym part) (λ k d e.
    get_or_default_zero (bytes m (wrap (a + i)) n) k d e
    ∙ byte-bytes m (wrap (a + i)) n k l (omega arith) (omega arith) (omega arith)
    ∙ ap (byte m) (omega arith)
    ∙ sym (byte-bytes m a s (i + k) l h q (omega arith))
    ∙ sym (part_at (bytes m a s) i n k (omega arith))
    ∙ sym (get_or_default_zero (take n (drop i (bytes m a s))) k d (omega arith)))
