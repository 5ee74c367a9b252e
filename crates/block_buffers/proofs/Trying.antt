-- The test whether entries are such as buffers are.
use Rattle.std.proofs.Common.{◌≡◌, ℕ, ◌+◌, ◌<◌, ◌≤◌, List, [], ◌∷◌, length, get_or, drop, Bool, true, false, not, ◌||◌, is_some, refl, arith, sym, ◌∙◌}
use Rattle.std.specs.Prelude.{All, AllPairs}
use Rattle.std.specs.List.{list_all, list_any}
use Rattle.std.proofs.lemmas.Bool.{and_parts, or_parts, not-true, eq-eqb, ne_eqb}
use Rattle.std.proofs.lemmas.List.{at_drop_more, at_drop_all}
use Rattle.std.proofs.lemmas.List.Elements.{All-head, All-tail}
use Rattle.std.proofs.lemmas.List.Folds.{list_any_none}
use Rattle.std.proofs.lemmas.List.Kept.{AllPairs-cons}
use Rattle.block_buffers.specs.declared.entry.Entry.{Entry}
use Rattle.block_buffers.specs.Entries.{is_in, AreBuffers}
use Rattle.block_buffers.specs.Tests.{can_stand, slots_differ}
use Rattle.block_buffers.proofs.Kept.{SmallSlot, HasWhereUpdated, SlotsDiffer}
use Rattle.block_buffers.proofs.Pairs.{pairs_head, pairs_tail}
use Rattle.block_buffers.proofs.Stamps.{lt_true}
use Rattle.std.proofs.lemmas.Grind.{common_steps}

-- updated only with a block
with_block : (u s : Bool) → (not u || s) ≡ true → u ≡ true → s ≡ true
with_block u s h q = grind (arith)

has_block : (u s : Bool) → (u ≡ true → s ≡ true) → (not u || s) ≡ true
has_block u s f = grind (arith)

-- each entry
stands : (n : ℕ) (e : Entry) → can_stand n e ≡ true → (e.slot < n) × (e.updated ≡ true → is_some e.block ≡ true)
stands n e h = grind arith

can : (n : ℕ) (e : Entry) → e.slot < n → (e.updated ≡ true → is_some e.block ≡ true) → can_stand n e ≡ true
can n e l u = rw (lt_true e.slot n l) (has_block e.updated (is_some e.block) u)

slots_small : (n : ℕ) (es : List Entry) → list_all (can_stand n) es ≡ true → All (SmallSlot n) es
slots_small n es h = grind (arith, common_steps, and_parts, stands)

updated_have : (n : ℕ) (es : List Entry) → list_all (can_stand n) es ≡ true → All HasWhereUpdated es
updated_have n es h = grind (arith, common_steps, and_parts, stands)

all_can : (n : ℕ) (es : List Entry) → All (SmallSlot n) es → All HasWhereUpdated es → list_all (can_stand n) es ≡ true
all_can n [] s u = refl
all_can n (e ∷ es) s u =
    rw (can n e (All-head (SmallSlot n) e es s) (All-head HasWhereUpdated e es u))
    (all_can n es (All-tail (SmallSlot n) e es s) (All-tail HasWhereUpdated e es u))

-- an entry and those after it
is_other : (e d : Entry) → is_in e.slot d ≡ false → SlotsDiffer e d
is_other e d h q = let yes : is_in e.slot d ≡ true = eq-eqb d.slot e.slot (sym q) in cc

all_others : (e : Entry) (es : List Entry) → list_any (is_in e.slot) es ≡ false → All (SlotsDiffer e) es
all_others e es h = grind (arith, common_steps, or_parts, is_other)

none_behind : (e : Entry) (es : List Entry) → All (SlotsDiffer e) es → list_any (is_in e.slot) es ≡ false
none_behind e es h = grind (arith, list_any_none, ne_eqb)

pairs_differ : (es : List Entry) → slots_differ es ≡ true → AllPairs SlotsDiffer es
unfolding slots_differ
pairs_differ [] h = λ i j d l m. absurd (omega arith)
pairs_differ (e ∷ es) h =
    let t = and_parts (not (list_any (is_in e.slot) es)) (slots_differ es) h in
    AllPairs-cons SlotsDiffer e es (all_others e es (not-true (list_any (is_in e.slot) es) t.0)) (pairs_differ es t.1)

differ : (es : List Entry) → AllPairs SlotsDiffer es → slots_differ es ≡ true
unfolding slots_differ
differ [] h = refl
differ (e ∷ es) h = rw (none_behind e es (pairs_head SlotsDiffer e es h)) (differ es (pairs_tail SlotsDiffer e es h))

pub are_such : (es : List Entry) → 2 ≤ length es → length es ≤ 16 → list_all (can_stand (length es)) es ≡ true → slots_differ es ≡ true → AreBuffers es
are_such es l m h d = grind (arith, slots_small, pairs_differ, updated_have)

pub such_stand : (es : List Entry) → AreBuffers es → list_all (can_stand (length es)) es ≡ true
such_stand es h = all_can (length es) es h.slots h.updated_have

pub such_differ : (es : List Entry) → AreBuffers es → slots_differ es ≡ true
such_differ es h = differ es h.once

pub ruleset tries = (are_such, such_stand, such_differ)

-- an entry on, and at the end
pub differ_more : (es : List Entry) (i : ℕ) (d : Entry) → i < length es → list_any (is_in (get_or es i d).slot) (drop (i + 1) es) ≡ false → slots_differ (drop i es) ≡ slots_differ (drop (i + 1) es)
unfolding slots_differ
differ_more es i d h none = at_drop_more slots_differ es i d h ∙ rw none refl

pub differ_stops : (es : List Entry) (i : ℕ) (d : Entry) → i < length es → list_any (is_in (get_or es i d).slot) (drop (i + 1) es) ≡ true → slots_differ (drop i es) ≡ false
unfolding slots_differ
differ_stops es i d h some = at_drop_more slots_differ es i d h ∙ rw some refl

pub differ_end : (es : List Entry) (i : ℕ) → length es ≤ i → slots_differ (drop i es) ≡ true
unfolding slots_differ
differ_end es i h = at_drop_all slots_differ es i h
