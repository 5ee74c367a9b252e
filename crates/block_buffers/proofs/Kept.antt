-- What every list of buffers keeps.
use Rattle.std.proofs.Common.{◌≡◌, ◌≢◌, ℕ, zero, suc, ◌-◌, ◌<◌, ◌≤◌, List, ◌∷◌, length, length-append, get_or, map, Option, Some, None, refl, arith, ◌∙◌, sym, ap, subst, true, false, Bool, is_some}
use Rattle.std.proofs.lemmas.List.{length-map}
use Rattle.std.specs.Prelude.{remove, filter, All, AllPairs, IsSome}
use Rattle.std.proofs.lemmas.List.Elements.{All-nil, All-cons, All-head, All-tail, All-append, All-map, All-filter, All-weaker}
use Rattle.std.proofs.lemmas.List.Edits.{length-remove}
use Rattle.std.proofs.lemmas.List.Filters.{length-filter_both}
use Rattle.std.proofs.lemmas.List.Kept.{AllPairs-cons}
use Rattle.memory.specs.Bytes.{IsCount}
use Rattle.block_buffers.specs.declared.entry.Entry.{Entry}
use Rattle.block_buffers.specs.Entries.{unassigned_slot, start, is_in, is_elsewhere, moved_front, assigned, front_marked, is_of, cleaned_entry, cleaned, unmarked_entry, unmarked, unassigned_entry, unassigned, AreBuffers, HasNoBlockTwice}
use Rattle.block_buffers.proofs.Fronts.{moved_at, assigned_at, front_some, front_none}
use Rattle.block_buffers.proofs.Pairs.{pairs_head, pairs_tail, pairs_map, pairs_parted}

abbrev pub SmallSlot : ℕ → Entry → Type 0
SmallSlot n e = e.slot < n

abbrev pub HasWhereUpdated : Entry → Type 0
HasWhereUpdated e = e.updated ≡ true → IsSome e.block

abbrev pub SlotsDiffer : Entry → Entry → Type 0
SlotsDiffer d e = d.slot ≢ e.slot

abbrev pub BlocksDiffer : Entry → Entry → Type 0
BlocksDiffer d e = (u : ℕ) → d.block ≡ Some u → e.block ≢ Some u

all_parted : (P : Entry → Type 0) (slot : ℕ) (b : List Entry) → All P b → All P (moved_front slot b)
unfolding moved_front
all_parted P slot b h =
    All-append P (filter (is_in slot) b) (filter (is_elsewhere slot) b) (All-filter (is_in slot) P b h) (All-filter (is_elsewhere slot) P b h)

pub length-moved_front : (slot : ℕ) (b : List Entry) → length (moved_front slot b) ≡ length b
unfolding moved_front
length-moved_front slot b = grind (arith, length-append, length-filter_both)

slots_parted : (slot : ℕ) (b : List Entry) → AllPairs SlotsDiffer b → AllPairs SlotsDiffer (moved_front slot b)
unfolding moved_front
slots_parted slot b h = pairs_parted SlotsDiffer (λ d e r q. r (sym q)) (is_in slot) b h

pub blocks_moved : (slot : ℕ) (b : List Entry) → HasNoBlockTwice b → HasNoBlockTwice (moved_front slot b)
unfolding moved_front
blocks_moved slot b h = pairs_parted BlocksDiffer (λ d e r u p q. r u q p) (is_in slot) b h

pub are_moved : (slot : ℕ) (b : List Entry) → AreBuffers b → AreBuffers (moved_front slot b)
are_moved slot b h = let n = length-moved_front slot b in record {
  count = subst (λ k. IsCount k) (sym n) h.count;
  slots = subst (λ k. All (SmallSlot k) (moved_front slot b)) (sym n) (all_parted (SmallSlot (length b)) slot b h.slots);
  once = slots_parted slot b h.once;
  updated_have = all_parted HasWhereUpdated slot b h.updated_have;
}

-- another entry of the same slot in front
are_replaced : (d e : Entry) (es : List Entry) → e.slot ≡ d.slot → HasWhereUpdated e → AreBuffers (d ∷ es) → AreBuffers (e ∷ es)
are_replaced d e es q up h = record {
  count = h.count;
  slots = All-cons (SmallSlot (suc (length es))) e es (rw q (All-head (SmallSlot (suc (length es))) d es h.slots)) (All-tail (SmallSlot (suc (length es))) d es h.slots);
  once = AllPairs-cons SlotsDiffer e es (rw q (pairs_head SlotsDiffer d es h.once)) (pairs_tail SlotsDiffer d es h.once);
  updated_have = All-cons HasWhereUpdated e es up (All-tail HasWhereUpdated d es h.updated_have);
}

-- the last entry, and a place before the end
abbrev pub last_entry : List Entry → Entry
last_entry b = get_or b (length b - 1) (unassigned_slot 0)

pub last_place : (b : List Entry) → AreBuffers b → length b - 1 < length b
last_place b h = omega (arith, h.count.0)

pub victim_first : (b : List Entry) → AreBuffers b → AreBuffers (last_entry b ∷ remove b (length b - 1))
victim_first b h =
    let P : List Entry → Type 0 = λ es. AreBuffers es in
    subst P (moved_at (length b - 1) b (unassigned_slot 0) (last_place b h) h.once) (are_moved (last_entry b).slot b h)

pub are_assigned : (u : ℕ) (b : List Entry) → AreBuffers b → AreBuffers (assigned u b)
are_assigned u b h =
    let P : List Entry → Type 0 = λ es. AreBuffers es in
    subst P (sym (assigned_at u b (unassigned_slot 0) (last_place b h)))
    (are_replaced (last_entry b) (record { slot = (last_entry b).slot; block = Some u; updated = false }) (remove b (length b - 1)) refl (λ q. cc) (victim_first b h))

marked_with : (e : Entry) (es : List Entry) (o : Option ℕ) → e.block ≡ o → AreBuffers (e ∷ es) → AreBuffers (front_marked (e ∷ es))
unfolding front_marked
marked_with e es (Some u) q h =
    let some : is_some e.block ≡ true = rw q refl
    in let P : List Entry → Type 0 = λ b. AreBuffers b
    in subst P (sym (front_some (e ∷ es) e (omega arith) some)) (are_replaced e (record e { updated = true }) es refl (λ _. some) h)
marked_with e es None q h = grind (arith, front_none)

pub are_marked : (b : List Entry) → AreBuffers b → AreBuffers (front_marked b)
unfolding front_marked
are_marked b h = grind (arith, marked_with)

-- a change of each entry that leaves its slot
are_mapped : (f : Entry → Entry) → ((e : Entry) → (f e).slot ≡ e.slot) → ((e : Entry) → HasWhereUpdated e → HasWhereUpdated (f e)) → (b : List Entry) → AreBuffers b → AreBuffers (map f b)
are_mapped f same up b h = let n = length-map b f in record {
  count = subst (λ k. IsCount k) (sym n) h.count;
  slots = subst (λ k. All (SmallSlot k) (map f b)) (sym n)
      (All-map (SmallSlot (length b)) f b (All-weaker (SmallSlot (length b)) (λ e. SmallSlot (length b) (f e)) (λ e l. rw (same e) l) b h.slots));
  once = pairs_map SlotsDiffer f (λ d e r q. r (sym (same d) ∙ q ∙ same e)) b h.once;
  updated_have = All-map HasWhereUpdated f b (All-weaker HasWhereUpdated (λ e. HasWhereUpdated (f e)) up b h.updated_have);
}

clean_slot : (slot : ℕ) (e : Entry) (b : Bool) → is_in slot e ≡ b → (cleaned_entry slot e).slot ≡ e.slot
clean_slot slot e b q = grind arith

clean_up : (slot : ℕ) (e : Entry) (b : Bool) → is_in slot e ≡ b → HasWhereUpdated e → HasWhereUpdated (cleaned_entry slot e)
clean_up slot e b q h = grind arith

pub are_cleaned : (slot : ℕ) (b : List Entry) → AreBuffers b → AreBuffers (cleaned slot b)
unfolding cleaned
are_cleaned slot b h = are_mapped (cleaned_entry slot) (λ e. clean_slot slot e (is_in slot e) refl) (λ e. clean_up slot e (is_in slot e) refl) b h

unmarked_slot : (u : ℕ) (e : Entry) (b : Bool) → is_of u e ≡ b → (unmarked_entry u e).slot ≡ e.slot
unmarked_slot u e b q = grind arith

unmarked_up : (u : ℕ) (e : Entry) (b : Bool) → is_of u e ≡ b → HasWhereUpdated e → HasWhereUpdated (unmarked_entry u e)
unmarked_up u e b q h = grind arith

pub are_unmarked : (u : ℕ) (b : List Entry) → AreBuffers b → AreBuffers (unmarked u b)
unfolding unmarked
are_unmarked u b h = are_mapped (unmarked_entry u) (λ e. unmarked_slot u e (is_of u e) refl) (λ e. unmarked_up u e (is_of u e) refl) b h

pub are_unassigned : (b : List Entry) → AreBuffers b → AreBuffers (unassigned b)
unfolding unassigned
are_unassigned b h = are_mapped unassigned_entry (λ e. refl) (λ e h q. cc) b h

-- buffers without blocks
start_below : (n m : ℕ) → n ≤ m → All (λ e. e.slot < m) (start n)
unfolding start
start_below zero m h = All-nil (λ e. e.slot < m)
start_below (suc n) m h = All-cons (λ e. e.slot < m) (unassigned_slot n) (start n) (omega arith) (start_below n m (omega arith))

start_differ : (n : ℕ) → AllPairs SlotsDiffer (start n)
unfolding start
start_differ zero = λ i j d l m. absurd (omega arith)
start_differ (suc n) = grind (arith, start_below, start_differ n)

start_unmarked : (n : ℕ) → All HasWhereUpdated (start n)
unfolding start
start_unmarked zero = All-nil HasWhereUpdated
start_unmarked (suc n) = All-cons HasWhereUpdated (unassigned_slot n) (start n) (λ q. cc) (start_unmarked n)

pub length-start : (n : ℕ) → length (start n) ≡ n
unfolding start
length-start zero = refl
length-start (suc n) = ap suc (length-start n)

pub are_started : (n : ℕ) → IsCount n → AreBuffers (start n)
are_started n h = grind (arith, length-start, start_below, start_differ, start_unmarked)

-- no move changes how many there are
pub length-assigned : (u : ℕ) (b : List Entry) → AreBuffers b → length (assigned u b) ≡ length b
length-assigned u b h =
    ap (λ es. length es) (assigned_at u b (unassigned_slot 0) (last_place b h))
    ∙ (let n = length-remove b (length b - 1) (last_place b h) in omega (arith, n))

pub length-unmarked : (u : ℕ) (b : List Entry) → length (unmarked u b) ≡ length b
unfolding unmarked
length-unmarked u b = length-map b (unmarked_entry u)

pub ruleset buffers = (are_moved, are_assigned, are_marked, are_cleaned, are_unmarked, are_unassigned)
