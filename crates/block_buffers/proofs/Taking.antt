-- Slots that get entries, one after the other.
use Rattle.std.proofs.Common.{rules, ◌≡◌, ℕ, ◌+◌, ◌-◌, ◌<◌, ◌≤◌, List, [], ◌∷◌, ◌++◌, length, length-append, get_or, drop, map, Bool, true, false, refl, arith, sym, subst, ◌∙◌, ap, append-nil}
use Rattle.std.specs.Prelude.{filter, All, AllPairs}
use Rattle.std.specs.List.{refill}
use Rattle.std.proofs.lemmas.List.{at_drop_more, at_drop_all, nil_from_length}
use Rattle.std.proofs.lemmas.List.Elements.{filter-append}
use Rattle.block_buffers.specs.declared.entry.Entry.{Entry}
use Rattle.block_buffers.specs.declared.stamped.Slot.{Slot}
use Rattle.block_buffers.specs.Entries.{is_in, is_elsewhere, moved_front, AreBuffers}
use Rattle.block_buffers.specs.Stamps.{recent, changed, put_entry, fresh_slots, fronted, all_fronted, AreStamped, AreSlots}
use Rattle.block_buffers.proofs.Fresh.{length-fresh, are_fresh}
use Rattle.block_buffers.proofs.Fronts.{all_elsewhere}
use Rattle.block_buffers.proofs.Kept.{SlotsDiffer}
use Rattle.block_buffers.proofs.Pairs.{pairs_head, pairs_tail}
use Rattle.block_buffers.proofs.Stamps.{is_here, one_of_slot, recent_changed, stamped_put, length-recent}
use Rattle.block_buffers.proofs.Written.{written_slots, written_entries}
use Rattle.std.proofs.lemmas.Grind.{common_steps}

-- the entry of a slot is in front, and becomes another one
elsewhere_stay : (e : Entry) (b : List Entry) → map (put_entry e.slot e) (filter (is_elsewhere e.slot) b) ≡ filter (is_elsewhere e.slot) b
elsewhere_stay e [] = refl
elsewhere_stay e (d ∷ ds) = by_test (is_in e.slot d) refl (elsewhere_stay e ds) where
  by_test : (m : Bool) → is_in e.slot d ≡ m → map (put_entry e.slot e) (filter (is_elsewhere e.slot) ds) ≡ filter (is_elsewhere e.slot) ds
      → map (put_entry e.slot e) (filter (is_elsewhere e.slot) (d ∷ ds)) ≡ filter (is_elsewhere e.slot) (d ∷ ds)
  by_test true q r = rw q r
  by_test false q r = rw (q, q) (ap (λ (es : List Entry). d ∷ es) r)

put_moved : (e d : Entry) (b : List Entry) → filter (is_in e.slot) b ≡ d ∷ [] → d.slot ≡ e.slot → map (put_entry e.slot e) (moved_front e.slot b) ≡ fronted e b
unfolding moved_front fronted
put_moved e d b one q = rw (one, is_here e.slot d q) (ap (λ (es : List Entry). e ∷ es) (elsewhere_stay e b))

pub taken_in : (e : Entry) (xs ys zs : List Slot) (n : ℕ) → e.slot < length xs → AreStamped xs n → recent ys ≡ moved_front e.slot (recent xs)
    → zs ≡ map (changed (put_entry e.slot e)) ys → recent zs ≡ fronted e (recent xs)
taken_in e xs ys zs n l h m p =
    let one = one_of_slot e.slot n xs l h in
    ap (λ ws. recent ws) p ∙ recent_changed (put_entry e.slot e) ys ∙ ap (λ (es : List Entry). map (put_entry e.slot e) es) m
    ∙ put_moved e one.entry (recent xs) one.alone one.here

pub taken_stamped : (e : Entry) (ys zs : List Slot) (n : ℕ) → AreStamped ys n → zs ≡ map (changed (put_entry e.slot e)) ys → AreStamped zs n
taken_stamped e ys zs n h p = subst (λ ws. AreStamped ws n) (sym p) (stamped_put e ys n h)

pub ruleset takes = (taken_in, taken_stamped)

-- all of them, from the last one on
pub taken_none : (es b : List Entry) (i : ℕ) → length es ≤ i → b ≡ all_fronted (drop i es) b
unfolding all_fronted
taken_none es b i h = sym (at_drop_all (λ fs. all_fronted fs b) es i h)

pub taken_more : (es b c d : List Entry) (i k : ℕ) (e : Entry) → c ≡ all_fronted (drop k es) b → d ≡ fronted (get_or es i e) c → k ≡ i + 1 → i < length es → d ≡ all_fronted (drop i es) b
unfolding all_fronted
taken_more es b c d i k e q p s l = grind (arith, common_steps, at_drop_more)

-- entries of different slots are as they were, before the others
others : List Entry → List Entry → List Entry
others [] b = b
others (e ∷ es) b = filter (is_elsewhere e.slot) (others es b)

fronted_append : (e : Entry) (es b : List Entry) → All (SlotsDiffer e) es → fronted e (es ++ b) ≡ e ∷ (es ++ filter (is_elsewhere e.slot) b)
unfolding fronted
fronted_append e es b h = search (rules, filter-append, all_elsewhere)

all_in_front : (es b : List Entry) → AllPairs SlotsDiffer es → all_fronted es b ≡ es ++ others es b
unfolding all_fronted others
all_in_front [] b h = refl
all_in_front (e ∷ es) b h =
    ap (λ fs. fronted e fs) (all_in_front es b (pairs_tail SlotsDiffer e es h)) ∙ fronted_append e es (others es b) (pairs_head SlotsDiffer e es h)

no_others : (es fs c : List Entry) → c ≡ es ++ fs → length c ≡ length es → c ≡ es
no_others es fs c q l = grind (arith, nil_from_length, length-append, append-nil)

made_entries : (es b : List Entry) (ys : List Slot) → AreBuffers es → length ys ≡ length es → recent ys ≡ all_fronted es b → recent ys ≡ es
made_entries es b ys h l q = no_others es (others es b) (recent ys) (q ∙ all_in_front es b h.once) (length-recent ys ∙ l)

made_slots : (es b : List Entry) (ys : List Slot) (n : ℕ) → AreBuffers es → length ys ≡ length es → AreStamped ys n → recent ys ≡ all_fronted es b → AreSlots ys n
made_slots es b ys n h l s q = grind (arith, made_entries)

-- over slots without blocks, as many as the entries

length-started : (es : List Entry) (xs ys : List Slot) → xs ≡ fresh_slots (length es - length es) (length es) → ys ≡ xs → length ys ≡ length es
length-started es xs ys p q = ap (λ zs. length zs) (q ∙ p) ∙ length-fresh (length es - length es) (length es)

pub started_small : (es : List Entry) (xs ys : List Slot) → AreBuffers es → xs ≡ fresh_slots (length es - length es) (length es) → ys ≡ xs
    → All (λ e. e.slot < length ys) es
started_small es xs ys h p q = subst (λ n. All (λ e. e.slot < n) es) (sym (length-started es xs ys p q)) h.slots

pub started_stamped : (es : List Entry) (xs ys : List Slot) → AreBuffers es → xs ≡ fresh_slots (length es - length es) (length es) → ys ≡ xs
    → AreStamped ys (length es)
started_stamped es xs ys h p q = (are_fresh ys (length es) (length es) (q ∙ p) h.count (omega arith)).stamped

pub taken_slots : (es : List Entry) (xs ys zs : List Slot) (n : ℕ) → AreBuffers es → xs ≡ fresh_slots (length es - length es) (length es) → ys ≡ xs
    → length zs ≡ length ys → AreStamped zs n → recent zs ≡ all_fronted es (recent ys) → AreSlots (refill (length xs) xs zs) n
taken_slots es xs ys zs n h p q l s r = grind (arith, common_steps, written_slots, made_slots, length-started)

pub taken_entries : (es : List Entry) (xs ys zs : List Slot) → AreBuffers es → xs ≡ fresh_slots (length es - length es) (length es) → ys ≡ xs
    → length zs ≡ length ys → recent zs ≡ all_fronted es (recent ys) → recent (refill (length xs) xs zs) ≡ es
taken_entries es xs ys zs h p q l r = grind (arith, written_entries, made_entries, length-started)
