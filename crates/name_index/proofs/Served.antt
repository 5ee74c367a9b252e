-- A search by the table.
use Rattle.std.proofs.Common.{◌≡◌, ℕ, ◌%◌, ◌<◌, List, length, arith, slice_index}
use Rattle.memory.specs.Bytes.{cell}
use Rattle.dictionary.specs.Header.{is_named}
use Rattle.dictionary.specs.Search.{walked, head_of, first_in, sought_in}
use Rattle.name_index.specs.declared.index.NameIndex.{NameIndex}
use Rattle.name_index.specs.Slots.{slot_of, class_of}
use Rattle.name_index.specs.Index.{Serves, Holds, slots_of}
use Rattle.name_index.specs.Passing.{PassesTo}

by_slot : (top k first entry : ℕ) (m name : List ℕ) (start : ℕ) → length m ≡ 65536 → slot_of name ≡ k → entry < 65536 → Serves top m k first entry
    → PassesTo m name start first → walked (is_named m name) m 32768 start ≡ walked (is_named m name) m 32768 entry
by_slot top k first entry m name start size s small is passes = grind arith

pub found_by : (limit k class start first entry : ℕ) (index : NameIndex) (m name : List ℕ) → Holds limit index m → length m ≡ 65536
    → k ≡ slot_of name → k < 8192 → k % 4 ≡ class_of name → class ≡ class_of name → slice_index index.heads class ≡ first
    → entry ≡ slice_index (slots_of index.table) k → entry < 65536 → start ≡ cell m (head_of 42 name) → PassesTo m name start first
    → sought_in m 42 name ≡ walked (is_named m name) m 32768 entry
unfolding Holds sought_in first_in
found_by limit k class start first entry index m name holds size s b c d known e small begin passes = grind (arith, by_slot)
