-- The buffer of a block, found without putting the slots in order.
use Rattle.std.proofs.Common.{◌≡◌, ℕ, suc, ◌-◌, ◌<◌, ◌≤◌, List, [], ◌∷◌, length, get_or, drop, drop_of_length-le, nat_lt, Bool, true, false, Some, None, is_some, refl, arith, sym, subst, ◌∙◌, ap, map, if◌then◌else◌}
use Rattle.std.specs.Prelude.{find}
use Rattle.std.specs.List.{list_any}
use Rattle.std.specs.Option.{option_map}
use Rattle.std.proofs.Math.Seq.{drop-cons}
use Rattle.std.proofs.lemmas.Grind.{common_steps}
use Rattle.std.proofs.lemmas.List.{get_or_default}
use Rattle.block_buffers.specs.declared.entry.Entry.{Entry}
use Rattle.block_buffers.specs.declared.stamped.Slot.{Slot}
use Rattle.block_buffers.specs.Entries.{unassigned_slot, is_of, holds, slot_of, victim, entry_at, AreBuffers}
use Rattle.block_buffers.specs.Stamps.{entry_of, insert, by_stamp, recent, AllBelow, later, latest}
use Rattle.block_buffers.proofs.Kept.{last_place}
use Rattle.block_buffers.proofs.Places.{place_held, slot_here}
use Rattle.block_buffers.proofs.Stamps.{Falls, falls_by_stamp, lt_true, below_more, length-recent}

abbrev of_slot : ℕ → Slot → Bool
of_slot u s = is_of u s.entry

-- nothing that is found among lower stamps was referenced later
later_all : (u : ℕ) (x : Slot) (zs : List Slot) → AllBelow x.stamp zs → later x (find (of_slot u) zs) ≡ x
later_all u x [] h = refl
later_all u x (z ∷ zs) h = by (is_of u z.entry) refl (later_all u x zs h.1)
  where
    by : (b : Bool) → is_of u z.entry ≡ b → later x (find (of_slot u) zs) ≡ x → later x (find (of_slot u) (z ∷ zs)) ≡ x
    by true e r = rw (e, lt_true z.stamp x.stamp h.0) refl
    by false e r = rw e r

find_insert : (u : ℕ) (x : Slot) (ys : List Slot) → Falls ys
    → find (of_slot u) (insert x ys) ≡ (if is_of u x.entry then Some (later x (find (of_slot u) ys)) else find (of_slot u) ys)
unfolding insert Falls
find_insert u x [] f = by (is_of u x.entry) refl
  where
    by : (b : Bool) → is_of u x.entry ≡ b → find (of_slot u) (x ∷ []) ≡ (if is_of u x.entry then Some x else None)
    by true e = rw e refl
    by false e = rw e refl
find_insert u x (y ∷ ys) f = by (nat_lt y.stamp x.stamp) (is_of u x.entry) (is_of u y.entry) refl refl refl (find_insert u x ys f.1)
  where
    lower : y.stamp < x.stamp → AllBelow x.stamp (y ∷ ys)
    lower l = (l, below_more (suc y.stamp) x.stamp ys (omega arith) f.0)

    is_lower : nat_lt y.stamp x.stamp ≡ true → y.stamp < x.stamp
    is_lower h = grind (arith, common_steps)

    by : (b c d : Bool) → nat_lt y.stamp x.stamp ≡ b → is_of u x.entry ≡ c → is_of u y.entry ≡ d
        → find (of_slot u) (insert x ys) ≡ (if is_of u x.entry then Some (later x (find (of_slot u) ys)) else find (of_slot u) ys)
        → find (of_slot u) (insert x (y ∷ ys)) ≡ (if is_of u x.entry then Some (later x (find (of_slot u) (y ∷ ys))) else find (of_slot u) (y ∷ ys))
    by true true d e q r s = rw (e, q) (ap Some (sym (later_all u x (y ∷ ys) (lower (is_lower e)))))
    by true false d e q r s = rw (e, q) refl
    by false true true e q r s = rw (e, q, r, e) refl
    by false true false e q r s = rw (e, r) (s ∙ rw q refl)
    by false false true e q r s = rw (e, q, r) refl
    by false false false e q r s = rw (e, r) (s ∙ rw q refl)

latest_is : (u : ℕ) (xs : List Slot) → find (of_slot u) (by_stamp xs) ≡ latest u xs
unfolding latest by_stamp
latest_is u [] = refl
latest_is u (x ∷ xs) = find_insert u x (by_stamp xs) (falls_by_stamp xs) ∙ rw (latest_is u xs) refl

find_entries : (u : ℕ) (xs : List Slot) → find (is_of u) (map entry_of xs) ≡ option_map entry_of (find (of_slot u) xs)
find_entries u [] = refl
find_entries u (x ∷ xs) = by (is_of u x.entry) refl (find_entries u xs)
  where
    by : (b : Bool) → is_of u x.entry ≡ b → find (is_of u) (map entry_of xs) ≡ option_map entry_of (find (of_slot u) xs)
        → find (is_of u) (map entry_of (x ∷ xs)) ≡ option_map entry_of (find (of_slot u) (x ∷ xs))
    by true e r = rw e refl
    by false e r = rw e r

find_recent : (u : ℕ) (xs : List Slot) → find (is_of u) (recent xs) ≡ option_map entry_of (latest u xs)
unfolding recent
find_recent u xs = find_entries u (by_stamp xs) ∙ ap (option_map entry_of) (latest_is u xs)

holds_find : (u : ℕ) (es : List Entry) → holds es u ≡ is_some (find (is_of u) es)
unfolding holds
holds_find u [] = refl
holds_find u (e ∷ es) = by (is_of u e) refl (holds_find u es)
  where
    by : (b : Bool) → is_of u e ≡ b → list_any (is_of u) es ≡ is_some (find (is_of u) es) → list_any (is_of u) (e ∷ es) ≡ is_some (find (is_of u) (e ∷ es))
    by true q r = rw q refl
    by false q r = rw q r

pub holds_latest : (u : ℕ) (xs : List Slot) (s : Slot) → latest u xs ≡ Some s → holds (recent xs) u ≡ true
holds_latest u xs s h = holds_find u (recent xs) ∙ rw (find_recent u xs, h) refl

pub slot_latest : (u : ℕ) (xs : List Slot) (s : Slot) → latest u xs ≡ Some s → slot_of (recent xs) u ≡ s.entry.slot
unfolding slot_of
slot_latest u xs s h = grind (arith, find_recent)

pub none_latest : (u : ℕ) (xs : List Slot) → latest u xs ≡ None → holds (recent xs) u ≡ false
none_latest u xs h = holds_find u (recent xs) ∙ rw (find_recent u xs, h) refl

pub not_held : (u : ℕ) (es : List Entry) → holds es u ≡ false → slot_of es u ≡ (victim es).slot
unfolding slot_of
not_held u es h = grind (arith, holds_find)

pub ruleset finds = (holds_latest, slot_latest, none_latest, not_held)

-- the loop goes from the last slot to the first
latest_at : (u : ℕ) (xs : List Slot) (i : ℕ) (d : Slot) → i < length xs
    → latest u (drop i xs) ≡ (if is_of u (get_or xs i d).entry then Some (later (get_or xs i d) (latest u (drop (suc i) xs))) else latest u (drop (suc i) xs))
unfolding latest
latest_at u xs i d l = ap (latest u) (drop-cons xs i d l)

pub latest_here : (u : ℕ) (xs : List Slot) (k i : ℕ) (d : Slot) → i ≡ k - 1 → 0 < k → k ≤ length xs → is_of u (get_or xs i d).entry ≡ true
    → Some (later (get_or xs i d) (latest u (drop k xs))) ≡ latest u (drop i xs)
latest_here u xs k i d e h l q =
    let j : suc i ≡ k = omega arith in
    subst (λ m. Some (later (get_or xs i d) (latest u (drop m xs))) ≡ latest u (drop i xs)) j (sym (latest_at u xs i d (omega arith) ∙ rw q refl))

pub latest_past : (u : ℕ) (xs : List Slot) (k i : ℕ) (d : Slot) → i ≡ k - 1 → 0 < k → k ≤ length xs → is_of u (get_or xs i d).entry ≡ false
    → latest u (drop k xs) ≡ latest u (drop i xs)
latest_past u xs k i d e h l q =
    let j : suc i ≡ k = omega arith in
    subst (λ m. latest u (drop m xs) ≡ latest u (drop i xs)) j (sym (latest_at u xs i d (omega arith) ∙ rw q refl))

pub latest_end : (u : ℕ) (xs : List Slot) (k : ℕ) → length xs ≤ k → None ≡ latest u (drop k xs)
unfolding latest
latest_end u xs k h = rw (drop_of_length-le xs h) refl

pub ruleset finding = (latest_end, latest_here, latest_past)

-- a buffer's slot is below the number of buffers
pub victim_small : (b : List Entry) → AreBuffers b → (victim b).slot < length b
unfolding entry_at
victim_small b h = h.slots (length b - 1) (unassigned_slot 0) (last_place b h)

pub held_small : (u : ℕ) (b : List Entry) → AreBuffers b → holds b u ≡ true → slot_of b u < length b
held_small u b h k = grind (arith, place_held, slot_here)

pub slot_small : (u : ℕ) (b : List Entry) → AreBuffers b → slot_of b u < length b
slot_small u b h = grind (arith, held_small, not_held, victim_small)

-- so it is below the number of slots, of which there are 2 to 16
pub some_slots : (xs : List Slot) → AreBuffers (recent xs) → 0 < length xs
some_slots xs h = omega (arith, h.count.0, length-recent xs)

pub few_slots : (xs : List Slot) → AreBuffers (recent xs) → length xs ≤ 16
few_slots xs h = omega (arith, h.count.1, length-recent xs)

pub last_recent : (xs : List Slot) (d : Entry) → AreBuffers (recent xs) → get_or (recent xs) (length xs - 1) d ≡ victim (recent xs)
unfolding entry_at
last_recent xs d h = grind (arith, get_or_default, length-recent)

pub victim_among : (xs : List Slot) → AreBuffers (recent xs) → (victim (recent xs)).slot < length xs
victim_among xs h = omega (arith, victim_small (recent xs) h, length-recent xs)

pub slot_among : (xs : List Slot) (u : ℕ) → AreBuffers (recent xs) → slot_of (recent xs) u < length xs
slot_among xs u h = omega (arith, slot_small u (recent xs) h, length-recent xs)

pub ruleset bounds = (some_slots, few_slots, last_recent, victim_among, slot_among, length-recent)
