-- Each slot has its entry.
use Rattle.std.proofs.Common.{◌≡◌, ◌≢◌, ℕ, suc, ◌<◌, ◌≤◌, List, [], ◌∷◌, length, map, get_or, Bool, true, false, arith, ap, ◌∙◌, sym, subst, refl}
use Rattle.std.specs.Prelude.{count_by, AllPairs, All, eqb}
use Rattle.std.specs.List.{list_any, IsDistinct, AllByRecursion}
use Rattle.std.proofs.lemmas.Bool.{eqb-true, ne_eqb}
use Rattle.std.proofs.lemmas.List.{length-map}
use Rattle.std.proofs.lemmas.List.Sums.{length-filter}
use Rattle.std.proofs.lemmas.Map.Steps.{length-le_from_distinct_below}
use Rattle.block_buffers.specs.declared.entry.Entry.{Entry}
use Rattle.block_buffers.specs.Entries.{unassigned_slot, is_in, moved_front, entry_at, AreBuffers}
use Rattle.block_buffers.proofs.Fronts.{moved_at, one_in}
use Rattle.block_buffers.proofs.Kept.{SlotsDiffer}
use Rattle.block_buffers.proofs.Pairs.{pairs_head, pairs_tail}

-- the slots of the entries, in their order
abbrev slots_of : List Entry → List ℕ
slots_of b = map (λ e. e.slot) b

-- an entry of the slot, and its place
record Stands (slot : ℕ) (b : List Entry) : Type 0 where
  place : ℕ
  small : place < length b
  is : (get_or b place (unassigned_slot 0)).slot ≡ slot

stands_step : (slot : ℕ) (e : Entry) (es : List Entry) (m : Bool) → eqb slot e.slot ≡ m → (list_any (eqb slot) (slots_of es) ≡ true → Stands slot es)
    → list_any (eqb slot) (slots_of (e ∷ es)) ≡ true → Stands slot (e ∷ es)
stands_step slot e es true q f h = record { place = 0; small = omega arith; is = sym (eqb-true slot e.slot q) }
stands_step slot e es false q f h = let at : Stands slot es = f (rw q at h) in record { place = suc at.place; small = omega (arith, at.small); is = at.is }

stands_among : (slot : ℕ) (b : List Entry) → list_any (eqb slot) (slots_of b) ≡ true → Stands slot b
stands_among slot [] h = cc
stands_among slot (e ∷ es) h = stands_step slot e es (eqb slot e.slot) refl (stands_among slot es) h

-- slots that differ, as numbers
none_same : (slot : ℕ) (es : List Entry) → All (λ e. slot ≢ e.slot) es → AllByRecursion (λ n. eqb slot n ≡ false) (slots_of es)
none_same slot [] h = tt
none_same slot (e ∷ es) h = (ne_eqb slot e.slot (h 0 e (omega arith)), none_same slot es (λ k d l. h (suc k) d (omega arith)))

distinct : (b : List Entry) → AllPairs SlotsDiffer b → IsDistinct eqb (slots_of b)
unfolding IsDistinct
distinct [] h = tt
distinct (e ∷ es) h = (none_same e.slot es (pairs_head SlotsDiffer e es h), distinct es (pairs_tail SlotsDiffer e es h))

below_step : (n : ℕ) (e : Entry) (es : List Entry) (q : ℕ) (m : Bool) → eqb q e.slot ≡ m → e.slot < n → (list_any (eqb q) (slots_of es) ≡ true → q < n)
    → list_any (eqb q) (slots_of (e ∷ es)) ≡ true → q < n
below_step n e es q m s l f h = grind arith

below : (n : ℕ) (es : List Entry) (q : ℕ) → All (λ e. e.slot < n) es → list_any (eqb q) (slots_of es) ≡ true → q < n
below n [] q h g = cc
below n (e ∷ es) q h g = below_step n e es q (eqb q e.slot) refl (h 0 e (omega arith)) (below n es q (λ k d l. h (suc k) d (omega arith))) g

-- a slot that no entry has would be one number too many
lacks_step : (slot n : ℕ) (ns : List ℕ) (m : Bool) → eqb slot n ≡ m → (list_any (eqb slot) ns ≡ false → AllByRecursion (λ k. eqb slot k ≡ false) ns)
    → list_any (eqb slot) (n ∷ ns) ≡ false → AllByRecursion (λ k. eqb slot k ≡ false) (n ∷ ns)
lacks_step slot n ns m q f h = grind arith

lacks : (slot : ℕ) (es : List ℕ) → list_any (eqb slot) es ≡ false → AllByRecursion (λ n. eqb slot n ≡ false) es
lacks slot [] h = tt
lacks slot (n ∷ ns) h = lacks_step slot n ns (eqb slot n) refl (lacks slot ns) h

below_more : (slot n : ℕ) (ns : List ℕ) (q : ℕ) (m : Bool) → eqb q slot ≡ m → slot < n → (list_any (eqb q) ns ≡ true → q < n)
    → list_any (eqb q) (slot ∷ ns) ≡ true → q < n
below_more slot n ns q m s l f h = grind arith

one_more : (slot : ℕ) (ns : List ℕ) → AllByRecursion (λ n. eqb slot n ≡ false) ns → IsDistinct eqb ns → IsDistinct eqb (slot ∷ ns)
unfolding IsDistinct
one_more slot ns h k = (h, k)

too_many : (slot : ℕ) (b : List Entry) → AreBuffers b → slot < length b → list_any (eqb slot) (slots_of b) ≡ true
too_many slot b h l = by (list_any (eqb slot) (slots_of b)) refl
  where
    by : (m : Bool) → list_any (eqb slot) (slots_of b) ≡ m → list_any (eqb slot) (slots_of b) ≡ true
    by true q = q
    by false q =
        let more : suc (length (slots_of b)) ≤ length b = length-le_from_distinct_below (slot ∷ slots_of b) (length b)
        (one_more slot (slots_of b) (lacks slot (slots_of b) q) (distinct b h.once)) (λ k. below_more slot (length b) (slots_of b) k (eqb k slot) refl l (below (length b) b k h.slots)) in
        absurd (omega (arith, more, length-map b (λ e. e.slot)))

stands : (slot : ℕ) (b : List Entry) → AreBuffers b → slot < length b → Stands slot b
stands slot b h l = stands_among slot b (too_many slot b h l)

pub slot_once : (b : List Entry) (slot : ℕ) → AreBuffers b → slot < length b → count_by (is_in slot) b ≡ 1
slot_once b slot h l =
    let at : Stands slot b = stands slot b h l
    in let P : ℕ → Type 0 = λ s. count_by (is_in s) b ≡ 1
    in subst P at.is (sym (length-filter (is_in (get_or b at.place (unassigned_slot 0)).slot) b) ∙ ap length (one_in at.place b (unassigned_slot 0) at.small h.once))

pub slot_in_front : (b : List Entry) (slot : ℕ) → AreBuffers b → slot < length b → (entry_at (moved_front slot b) 0).slot ≡ slot
unfolding entry_at
slot_in_front b slot h l =
    let at : Stands slot b = stands slot b h l
    in let P : ℕ → Type 0 = λ s. (get_or (moved_front s b) 0 (unassigned_slot 0)).slot ≡ s
    in subst P at.is (ap (λ (es : List Entry). (get_or es 0 (unassigned_slot 0)).slot) (moved_at at.place b (unassigned_slot 0) at.small h.once))
