-- What a written block, and a buffer that is given to a block, change for the references that follow.
use Rattle.std.proofs.Common.{◌≡◌, ℕ, zero, suc, ◌+◌, ◌-◌, ◌<◌, ◌≤◌, List, [], ◌∷◌, length, get_or, Some, unwrap_or, refl, arith, ap, ◌∙◌, sym, subst, true, false, Bool, if◌then◌else◌}
use Rattle.std.specs.Prelude.{Contains, count_by}
use Rattle.std.proofs.lemmas.List.{get_or-map, length-map}
use Rattle.std.proofs.lemmas.List.Sorted.{list_any-IsPermutation}
use Rattle.std.proofs.lemmas.List.Sums.{sum_by-cons}
use Rattle.block_buffers.specs.declared.entry.Entry.{Entry}
use Rattle.block_buffers.specs.Entries.{unassigned_slot, is_of, is_updated, holds, slot_of, moved_front, assigned, unmarked_entry, unmarked, victim, entry_at, has_updated, first_updated, AreBuffers, IsLowestUpdated}
use Rattle.block_buffers.proofs.Blocks.{unmark_block, moved_permutes, block_of}
use Rattle.block_buffers.proofs.Fronts.{moved_at}
use Rattle.block_buffers.proofs.Kept.{last_place}
use Rattle.block_buffers.proofs.Places.{position_here, slot_here}
use Rattle.block_buffers.proofs.Updated.{first_is_lowest}
use Rattle.std.proofs.lemmas.Grind.{common_steps}

-- an entry that is no longer marked is of the same block
unmark_of : (v u : ℕ) (e : Entry) → is_of u (unmarked_entry v e) ≡ is_of u e
unmark_of v u e = grind arith

pub holds_unmarked : (v u : ℕ) (b : List Entry) → holds (unmarked v b) u ≡ holds b u
unfolding holds unmarked
holds_unmarked v u [] = refl
holds_unmarked v u (e ∷ es) = rw (unmark_of v u e, holds_unmarked v u es) refl

pub holds_moved : (slot u : ℕ) (b : List Entry) → holds (moved_front slot b) u ≡ holds b u
unfolding holds
holds_moved slot u b = sym (list_any-IsPermutation (is_of u) b (moved_front slot b) (moved_permutes slot b))

unmark_here : (u : ℕ) (e : Entry) → is_of u e ≡ true → (unmarked_entry u e).updated ≡ false
unmark_here u e h = rw h refl

-- an updated entry of the list has a block
pub of_updated : (b : List Entry) (k : ℕ) (d : Entry) → AreBuffers b → k < length b → (get_or b k d).updated ≡ true → is_of (unwrap_or (get_or b k d).block 0) (get_or b k d) ≡ true
of_updated b k d h l marked = grind arith

-- the victim's buffer is clean once its block is written
pub victim_saved : (b : List Entry) → AreBuffers b → (victim b).updated ≡ true → (victim (unmarked (unwrap_or (victim b).block 0) b)).updated ≡ false
unfolding unmarked entry_at
victim_saved b h q = grind (arith, last_place, length-map, get_or-map, unmark_here, of_updated)

-- 1 for an entry that is marked
abbrev mark : Entry → ℕ
mark e = if e.updated then 1 else 0

count_more : (e : Entry) (es : List Entry) → count_by is_updated (e ∷ es) ≡ mark e + count_by is_updated es
count_more e es = sum_by-cons (λ x. if is_updated x then 1 else 0) e es

mark_unmarked : (u : ℕ) (e : Entry) (m : Bool) → is_of u e ≡ m → mark (unmarked_entry u e) ≤ mark e
mark_unmarked u e m q = grind arith

-- never are more entries marked
no_more_updated : (u : ℕ) (b : List Entry) → count_by is_updated (unmarked u b) ≤ count_by is_updated b
unfolding unmarked
no_more_updated u [] = omega arith
no_more_updated u (e ∷ es) = grind (arith, count_more, mark_unmarked, no_more_updated u es)

-- one fewer is marked if a marked entry's block is written
fewer_updated : (u : ℕ) (b : List Entry) (k : ℕ) (d : Entry) → k < length b → (get_or b k d).updated ≡ true → is_of u (get_or b k d) ≡ true → count_by is_updated (unmarked u b) < count_by is_updated b
unfolding unmarked
fewer_updated u [] k d l h has = absurd (omega arith)
fewer_updated u (e ∷ es) zero d l h has = grind (arith, unmark_here, count_more, no_more_updated)
fewer_updated u (e ∷ es) (suc k) d l h has = grind (arith, count_more, mark_unmarked, fewer_updated u es k d (omega arith) h has)

-- a reference to the block in front changes nothing
pub front_stays : (b : List Entry) (u : ℕ) → AreBuffers b → (entry_at b 0).block ≡ Some u → moved_front (slot_of b u) b ≡ b
unfolding entry_at
front_stays b u h q = grind (arith, block_of, position_here, slot_here, moved_at)

-- the block in front is still there once a buffer is given to another
pub front_held : (b : List Entry) (u v : ℕ) → AreBuffers b → (entry_at b 0).block ≡ Some u → holds (assigned v b) u ≡ true
unfolding holds assigned entry_at
front_held b u v h q = grind arith

-- the block in front is the same once a block is written
pub front_unmarked : (b : List Entry) (u : ℕ) → AreBuffers b → (entry_at (unmarked u b) 0).block ≡ (entry_at b 0).block
unfolding unmarked entry_at
front_unmarked b u h = grind (arith, common_steps, unmark_block)

-- the updated entry that is saved first is no longer marked
pub fewer_saved : (b : List Entry) → AreBuffers b → has_updated b ≡ true → count_by is_updated (unmarked (unwrap_or (first_updated b).block 0) b) < count_by is_updated b
fewer_saved b h q =
    let e : Entry = first_updated b
    in let low : IsLowestUpdated b e = first_is_lowest b h q
    in let one : Contains b e = low.one
    in let at : get_or b one.0 e ≡ e = one.2
    in let P : Entry → Type 0 = λ x. count_by is_updated (unmarked (unwrap_or x.block 0) b) < count_by is_updated b
    in let marked : (get_or b one.0 e).updated ≡ true = ap (λ (x : Entry). x.updated) at ∙ low.marked
    in subst P at (fewer_updated (unwrap_or (get_or b one.0 e).block 0) b one.0 e one.1 marked (of_updated b one.0 e h one.1 marked))

held_at : (u : ℕ) (b : List Entry) (k : ℕ) (d : Entry) → k < length b → is_of u (get_or b k d) ≡ true → holds b u ≡ true
unfolding holds
held_at u b k d l h = grind (arith, common_steps)

-- the block of an updated victim is in a buffer
pub victim_held : (b : List Entry) → AreBuffers b → (victim b).updated ≡ true → holds b (unwrap_or (victim b).block 0) ≡ true
unfolding entry_at
victim_held b h q =
    let d : Entry = unassigned_slot 0
    in let k : ℕ = length b - 1
    in let l : k < length b = last_place b h
    in held_at (unwrap_or (get_or b k d).block 0) b k d l (of_updated b k d h l q)

-- and so is the block of the updated entry that is saved first
pub first_held : (b : List Entry) → AreBuffers b → has_updated b ≡ true → holds b (unwrap_or (first_updated b).block 0) ≡ true
first_held b h q =
    let e : Entry = first_updated b
    in let low : IsLowestUpdated b e = first_is_lowest b h q
    in let one : Contains b e = low.one
    in let at : get_or b one.0 e ≡ e = one.2
    in let marked : (get_or b one.0 e).updated ≡ true = ap (λ (x : Entry). x.updated) at ∙ low.marked
    in subst (λ (x : Entry). holds b (unwrap_or x.block 0) ≡ true) at
    (held_at (unwrap_or (get_or b one.0 e).block 0) b one.0 e one.1 (of_updated b one.0 e h one.1 marked))
