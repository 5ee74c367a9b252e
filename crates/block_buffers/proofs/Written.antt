-- What a write of the slots leaves, by what was written.
use Rattle.std.proofs.Common.{rules, ◌≡◌, ℕ, List, length, take, drop_of_length-le, take_all, append-nil, map, get_or, Some, is_some, true, false, arith, sym, subst, ◌∙◌, ap}
use Rattle.std.specs.List.{refill}
use Rattle.std.proofs.lemmas.List.{length-map, get_or_default}
use Rattle.block_buffers.specs.declared.entry.Entry.{Entry}
use Rattle.block_buffers.specs.declared.stamped.Slot.{Slot}
use Rattle.block_buffers.specs.Entries.{unassigned_slot, entry_at, victim, moved_front, front_marked, cleaned_entry, cleaned, unmarked_entry, unmarked, unassigned_entry, unassigned}
use Rattle.block_buffers.specs.Stamps.{recent, AreStamped, AreSlots, changed, put_entry}
use Rattle.block_buffers.proofs.Kept.{are_moved, are_cleaned, are_unmarked, are_unassigned}
use Rattle.block_buffers.proofs.Stamps.{length-recent, stamped_cleaned, stamped_unmarked, stamped_unassigned, recent_cleaned, recent_unmarked, recent_unassigned, slots_marked, recent_unmarkable, slots_assigned}
use Rattle.std.proofs.lemmas.Grind.{common_steps}

-- all places are written
refilled : (xs ys : List Slot) → length ys ≡ length xs → refill (length xs) xs ys ≡ ys
refilled xs ys h = grind (arith, take, length, drop_of_length-le, append-nil, take_all)

pub written_slots : (xs ys : List Slot) (n : ℕ) → length ys ≡ length xs → AreSlots ys n → AreSlots (refill (length xs) xs ys) n
written_slots xs ys n h s = subst (λ zs. AreSlots zs n) (sym (refilled xs ys h)) s

pub written_entries : (xs ys : List Slot) (es : List Entry) → length ys ≡ length xs → recent ys ≡ es → recent (refill (length xs) xs ys) ≡ es
written_entries xs ys es h e = ap (λ zs. recent zs) (refilled xs ys h) ∙ e

pub written_count : (xs ys : List Slot) → length ys ≡ length xs → length (recent (refill (length xs) xs ys)) ≡ length (recent xs)
written_count xs ys h = ap (λ zs. length (recent zs)) (refilled xs ys h) ∙ length-recent ys ∙ h ∙ sym (length-recent xs)

pub ruleset written = (written_slots, written_entries, written_count)

-- a change of each slot
same_length : (f : Slot → Slot) (xs ys : List Slot) → ys ≡ map f xs → length ys ≡ length xs
same_length f xs ys e = ap (λ zs. length zs) e ∙ length-map xs f

changed_slots : (f : Slot → Slot) (xs ys : List Slot) (n : ℕ) → ys ≡ map f xs → AreSlots (map f xs) n → AreSlots (refill (length xs) xs ys) n
changed_slots f xs ys n e s = written_slots xs ys n (same_length f xs ys e) (subst (λ zs. AreSlots zs n) (sym e) s)

changed_entries : (f : Slot → Slot) (xs ys : List Slot) (es : List Entry) → ys ≡ map f xs → recent (map f xs) ≡ es → recent (refill (length xs) xs ys) ≡ es
changed_entries f xs ys es e s = written_entries xs ys es (same_length f xs ys e) (ap (λ zs. recent zs) e ∙ s)

changed_count : (f : Slot → Slot) (xs ys : List Slot) → ys ≡ map f xs → length (recent (refill (length xs) xs ys)) ≡ length (recent xs)
changed_count f xs ys e = written_count xs ys (same_length f xs ys e)

pub cleaned_slots : (xs ys : List Slot) (slot n : ℕ) → ys ≡ map (changed (cleaned_entry slot)) xs → AreSlots xs n → AreSlots (refill (length xs) xs ys) n
cleaned_slots xs ys slot n e s = search (rules, changed_slots, stamped_cleaned, recent_cleaned, are_cleaned)

pub cleaned_entries : (xs ys : List Slot) (slot : ℕ) → ys ≡ map (changed (cleaned_entry slot)) xs → recent (refill (length xs) xs ys) ≡ cleaned slot (recent xs)
cleaned_entries xs ys slot e = changed_entries (changed (cleaned_entry slot)) xs ys (cleaned slot (recent xs)) e (recent_cleaned slot xs)

pub cleaned_count : (xs ys : List Slot) (slot : ℕ) → ys ≡ map (changed (cleaned_entry slot)) xs → length (recent (refill (length xs) xs ys)) ≡ length (recent xs)
cleaned_count xs ys slot e = changed_count (changed (cleaned_entry slot)) xs ys e

pub ruleset cleans = (cleaned_slots, cleaned_entries, cleaned_count)

pub unmarked_slots : (xs ys : List Slot) (u n : ℕ) → ys ≡ map (changed (unmarked_entry u)) xs → AreSlots xs n → AreSlots (refill (length xs) xs ys) n
unmarked_slots xs ys u n e s = search (rules, changed_slots, stamped_unmarked, recent_unmarked, are_unmarked)

pub unmarked_entries : (xs ys : List Slot) (u : ℕ) → ys ≡ map (changed (unmarked_entry u)) xs → recent (refill (length xs) xs ys) ≡ unmarked u (recent xs)
unmarked_entries xs ys u e = changed_entries (changed (unmarked_entry u)) xs ys (unmarked u (recent xs)) e (recent_unmarked u xs)

pub unmarked_count : (xs ys : List Slot) (u : ℕ) → ys ≡ map (changed (unmarked_entry u)) xs → length (recent (refill (length xs) xs ys)) ≡ length (recent xs)
unmarked_count xs ys u e = changed_count (changed (unmarked_entry u)) xs ys e

pub ruleset unmarks = (unmarked_slots, unmarked_entries, unmarked_count)

pub unassigned_slots : (xs ys : List Slot) (n : ℕ) → ys ≡ map (changed unassigned_entry) xs → AreSlots xs n → AreSlots (refill (length xs) xs ys) n
unassigned_slots xs ys n e s = grind (arith, common_steps, changed_slots, stamped_unassigned, recent_unassigned, are_unassigned)

pub unassigned_entries : (xs ys : List Slot) → ys ≡ map (changed unassigned_entry) xs → recent (refill (length xs) xs ys) ≡ unassigned (recent xs)
unassigned_entries xs ys e = changed_entries (changed unassigned_entry) xs ys (unassigned (recent xs)) e (recent_unassigned xs)

pub unassigned_count : (xs ys : List Slot) → ys ≡ map (changed unassigned_entry) xs → length (recent (refill (length xs) xs ys)) ≡ length (recent xs)
unassigned_count xs ys e = changed_count (changed unassigned_entry) xs ys e

pub ruleset unassigns = (unassigned_slots, unassigned_entries, unassigned_count)

front_is : (xs : List Slot) (es : List Entry) (d : Entry) (n : ℕ) → AreSlots xs n → es ≡ recent xs → get_or es 0 d ≡ entry_at (recent xs) 0
unfolding entry_at
front_is xs es d n h q = ap (λ fs. get_or fs 0 d) q ∙ get_or_default (recent xs) 0 d (unassigned_slot 0) (omega (arith, h.buffers.count.0))

-- a reference
pub touched_slots : (xs ys : List Slot) (slot n k : ℕ) → AreSlots xs n → AreStamped ys k → recent ys ≡ moved_front slot (recent xs) → AreSlots ys k
touched_slots xs ys slot n k h s e = grind (arith, are_moved)

pub assigned_slots : (xs ys zs : List Slot) (n k u : ℕ) (v : Entry) → AreSlots xs n → v ≡ victim (recent xs) → AreStamped ys k
    → recent ys ≡ moved_front v.slot (recent xs)
    → zs ≡ map (changed (put_entry v.slot (record { slot = v.slot; block = Some u; updated = false }))) ys → AreSlots zs k
assigned_slots xs ys zs n k u v h q s m e =
    subst (λ ws. AreSlots ws k) (sym e) (slots_assigned xs ys n k u v.slot h (ap (λ x. x.slot) q) s m)

-- the entry in front
pub front_slots : (xs ys : List Slot) (es : List Entry) (n : ℕ) (d : Entry) → AreSlots xs n → es ≡ recent xs
    → ys ≡ map (changed (put_entry (get_or es 0 d).slot (record (get_or es 0 d) { updated = true }))) xs → is_some (get_or es 0 d).block ≡ true → AreSlots ys n
front_slots xs ys es n d h q e s =
    let f : get_or es 0 d ≡ entry_at (recent xs) 0 = front_is xs es d n h q in
    subst (λ ws. AreSlots ws n) (sym e) (slots_marked xs n (get_or es 0 d) h f s)

pub front_stays : (xs : List Slot) (es : List Entry) (n : ℕ) (d : Entry) → AreSlots xs n → es ≡ recent xs → is_some (get_or es 0 d).block ≡ false
    → recent xs ≡ front_marked (recent xs)
front_stays xs es n d h q s = sym (recent_unmarkable xs n (get_or es 0 d) h (front_is xs es d n h q) s)

pub length-changed : (f : Entry → Entry) (xs ys : List Slot) → ys ≡ map (changed f) xs → length ys ≡ length xs
length-changed f xs ys e = same_length (changed f) xs ys e

pub ruleset touches = (touched_slots)

pub ruleset lengths = (length-changed)
