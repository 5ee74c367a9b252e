-- What the count byte of a new header says.
use Rattle.std.proofs.Common.{◌≡◌, ℕ, ◌≤◌, List, length, Bool, true, false, arith}
use Rattle.dictionary.specs.Adding.{new_count}
use Rattle.dictionary.specs.Header.{count_byte, name_length, is_hidden, is_immediate}
use Rattle.dictionary.specs.Newest.{revealed}
use Rattle.dictionary.proofs.CountBits.{revealed_bits, length_bits, hidden_length_bits, shown_bits, hidden_bits, plain_bits, plain_hidden_bits}

pub reveal_new : (name : List ℕ) → length name ≤ 31 → revealed (new_count true name) ≡ new_count false name
unfolding revealed
reveal_new name h = revealed_bits (length name) (omega arith)

pub length_new : (m name : List ℕ) (l : ℕ) (hidden : Bool) → length name ≤ 31 → count_byte m l ≡ new_count hidden name → name_length m l ≡ length name
unfolding name_length
length_new m name l hidden h e = grind (arith, hidden_length_bits, length_bits)

pub hidden_new : (m name : List ℕ) (l : ℕ) (hidden : Bool) → length name ≤ 31 → count_byte m l ≡ new_count hidden name → is_hidden m l ≡ hidden
unfolding is_hidden
hidden_new m name l hidden h e = grind (arith, hidden_bits, shown_bits)

pub plain_new : (m name : List ℕ) (l : ℕ) (hidden : Bool) → length name ≤ 31 → count_byte m l ≡ new_count hidden name → is_immediate m l ≡ false
unfolding is_immediate
plain_new m name l hidden h e = grind (arith, plain_hidden_bits, plain_bits)
