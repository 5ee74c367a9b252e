-- Where the buffer of a block is in the list.
use Rattle.std.proofs.Common.{◌≡◌, ℕ, ◌<◌, ◌≤◌, List, length, get_or, arith, true, false, Bool}
use Rattle.std.specs.List.{position_or_len}
use Rattle.std.proofs.lemmas.Bool.{cases_lt}
use Rattle.std.proofs.lemmas.List.{get_or_default, get_or_past}
use Rattle.std.proofs.lemmas.List.Folds.{list_any_at, list_any_none, find_at}
use Rattle.std.proofs.lemmas.List.Sums.{position_or_len_is, passes_at_first, fails_before_first}
use Rattle.std.proofs.lemmas.Option.{unwrap_or-slice_get}
use Rattle.std.proofs.lemmas.Grind.{common_steps}
use Rattle.block_buffers.specs.declared.entry.Entry.{Entry}
use Rattle.block_buffers.specs.declared.stamped.Slot.{Slot}
use Rattle.block_buffers.specs.Entries.{unassigned_slot, is_of, holds, slot_of, victim}
use Rattle.block_buffers.specs.Stamps.{is_below, fresh}

-- a loop that has passed the entries below i
pub position_here : {X : Type 0} (p : X → Bool) (i : ℕ) (xs : List X) (d : X) → p (get_or xs i d) ≡ true → i < length xs
    → ((k : ℕ) (x : X) → k < i → p (get_or xs k x) ≡ false) → position_or_len p xs ≡ i
position_here p i xs d here h before = position_or_len_is p xs i d (omega arith) (λ k. before k d) (λ _. here)

pub stamp_here : (n i : ℕ) (xs : List Slot) (d : Slot) → (get_or xs i d).stamp < n → i < length xs
    → ((k : ℕ) (x : Slot) → k < i → is_below n (get_or xs k x) ≡ false) → position_or_len (is_below n) xs ≡ i
stamp_here n i xs d here h before = position_here (is_below n) i xs d (grind (arith, common_steps, here)) h before

pub stamp_end : (n : ℕ) (xs : List Slot) → ((k : ℕ) (x : Slot) → k < length xs → is_below n (get_or xs k x) ≡ false)
    → position_or_len (is_below n) xs ≡ length xs
stamp_end n xs before =
    position_or_len_is (is_below n) xs (length xs) (fresh 0 0) (omega arith) (λ k. before k (fresh 0 0)) (λ h. absurd (omega arith))

pub ruleset positions = (stamp_here, stamp_end)

pub holds_here : (u : ℕ) (es : List Entry) → position_or_len (is_of u) es < length es → holds es u ≡ true
unfolding holds
holds_here u es h = list_any_at (is_of u) es (position_or_len (is_of u) es) (unassigned_slot 0) h (passes_at_first (is_of u) es (unassigned_slot 0) h)

pub holds_end : (u : ℕ) (es : List Entry) → length es ≤ position_or_len (is_of u) es → holds es u ≡ false
unfolding holds
holds_end u es h = grind (arith, list_any_none, fails_before_first)

pub place_held : (u : ℕ) (es : List Entry) → holds es u ≡ true → position_or_len (is_of u) es < length es
place_held u es h = grind (arith, cases_lt, holds_end)

found : (u : ℕ) (es : List Entry) → slot_of es u ≡ (get_or es (position_or_len (is_of u) es) (victim es)).slot
unfolding slot_of
found u es = grind (arith, find_at, unwrap_or-slice_get)

pub slot_here : (u : ℕ) (es : List Entry) → position_or_len (is_of u) es < length es → slot_of es u ≡ (get_or es (position_or_len (is_of u) es) (unassigned_slot 0)).slot
slot_here u es h = grind (arith, found, get_or_default)

pub slot_end : (u : ℕ) (es : List Entry) → length es ≤ position_or_len (is_of u) es → slot_of es u ≡ (victim es).slot
slot_end u es h = grind (arith, found, get_or_past)

pub ruleset places = (holds_here, holds_end, place_held, slot_here, slot_end)
