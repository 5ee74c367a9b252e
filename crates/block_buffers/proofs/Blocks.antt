-- No block is in two buffers, and where a block's entry is.
use Rattle.std.proofs.Common.{◌≡◌, ◌≢◌, ℕ, zero, suc, ◌-◌, ◌==◌, List, [], ◌∷◌, length, take, map, Option, Some, None, refl, arith, ◌∙◌, sym, subst, true, false, Bool, is_some}
use Rattle.std.specs.Prelude.{All}
use Rattle.std.specs.List.Sorted.{IsPermutation}
use Rattle.std.proofs.lemmas.Bool.{eq-eqb}
use Rattle.std.proofs.lemmas.List.Elements.{All-take}
use Rattle.std.proofs.lemmas.List.Kept.{AllPairs-cons}
use Rattle.std.proofs.lemmas.List.Sorted.{IsPermutation-refl, IsPermutation-trans, IsPermutation-filter_both}
use Rattle.std.proofs.lemmas.List.Sums.{passes_at_first}
use Rattle.block_buffers.specs.declared.entry.Entry.{Entry}
use Rattle.block_buffers.specs.Entries.{unassigned_slot, start, is_in, is_elsewhere, is_of, holds, slot_of, moved_front, after_references, assigned, front_marked, cleaned_entry, cleaned, unmarked_entry, unmarked, unassigned_entry, unassigned, victim, entry_at, AreBuffers, HasNoBlockTwice}
use Rattle.block_buffers.proofs.Fronts.{moved_at, front_some, front_none}
use Rattle.block_buffers.proofs.Kept.{length-moved_front, BlocksDiffer}
use Rattle.block_buffers.proofs.Pairs.{pairs_head, pairs_tail, pairs_map}
use Rattle.block_buffers.proofs.Places.{place_held, slot_here}
use Rattle.std.proofs.lemmas.Grind.{common_steps}

pub of_from_block : (u : ℕ) (o : Option ℕ) → (elim o [ Some v ↦ v == u | None ↦ false ]) ≡ true → o ≡ Some u
of_from_block u o h = grind arith

pub block_of : (u : ℕ) (e : Entry) → e.block ≡ Some u → is_of u e ≡ true
block_of u e h = rw h (eq-eqb u u refl)

lacks_block : (u : ℕ) (b : List Entry) → holds b u ≡ false → All (λ e. e.block ≢ Some u) b
unfolding holds
lacks_block u b h = grind (arith, common_steps, block_of)

no_blocks : (b : List Entry) → HasNoBlockTwice (map unassigned_entry b)
no_blocks [] = λ i j d l m. absurd (omega arith)
no_blocks (e ∷ es) =
    AllPairs-cons BlocksDiffer (unassigned_entry e) (map unassigned_entry es) (λ k d l u q. cc) (no_blocks es)

pub blocks_unassigned : (b : List Entry) → HasNoBlockTwice (unassigned b)
unfolding unassigned
blocks_unassigned b = no_blocks b

pub blocks_started : (n : ℕ) → HasNoBlockTwice (start n)
unfolding start
blocks_started zero = λ i j d l m. absurd (omega arith)
blocks_started (suc n) = AllPairs-cons BlocksDiffer (unassigned_slot n) (start n) (λ k d l u q. cc) (blocks_started n)

blocks_replaced : (d e : Entry) (es : List Entry) → e.block ≡ d.block → HasNoBlockTwice (d ∷ es) → HasNoBlockTwice (e ∷ es)
blocks_replaced d e es q h =
    AllPairs-cons BlocksDiffer e es (λ k f l u r. pairs_head BlocksDiffer d es h k f l u (sym q ∙ r)) (pairs_tail BlocksDiffer d es h)

marked_with : (e : Entry) (es : List Entry) (m : Bool) → is_some e.block ≡ m → HasNoBlockTwice (e ∷ es) → HasNoBlockTwice (front_marked (e ∷ es))
marked_with e es true q h =
    let P : List Entry → Type 0 = λ b. HasNoBlockTwice b
    in subst P (sym (front_some (e ∷ es) e (omega arith) q)) (blocks_replaced e (record e { updated = true }) es refl h)
marked_with e es false q h =
    let P : List Entry → Type 0 = λ b. HasNoBlockTwice b in subst P (sym (front_none (e ∷ es) e (omega arith) q)) h

pub blocks_marked : (b : List Entry) → HasNoBlockTwice b → HasNoBlockTwice (front_marked b)
unfolding front_marked
blocks_marked [] h = h
blocks_marked (e ∷ es) h = marked_with e es (is_some e.block) refl h

pub clean_block : (slot : ℕ) (e : Entry) (m : Bool) → is_in slot e ≡ m → (cleaned_entry slot e).block ≡ e.block
clean_block slot e m q = grind arith

pub blocks_cleaned : (slot : ℕ) (b : List Entry) → HasNoBlockTwice b → HasNoBlockTwice (cleaned slot b)
unfolding cleaned
blocks_cleaned slot b h =
    pairs_map BlocksDiffer (cleaned_entry slot)
    (λ d e r u q k. r u (sym (clean_block slot d (is_in slot d) refl) ∙ q) (sym (clean_block slot e (is_in slot e) refl) ∙ k)) b h

pub unmark_block : (u : ℕ) (e : Entry) (m : Bool) → is_of u e ≡ m → (unmarked_entry u e).block ≡ e.block
unmark_block u e m q = grind arith

pub blocks_unmarked : (u : ℕ) (b : List Entry) → HasNoBlockTwice b → HasNoBlockTwice (unmarked u b)
unfolding unmarked
blocks_unmarked u b h =
    pairs_map BlocksDiffer (unmarked_entry u)
    (λ d e r v q k. r v (sym (unmark_block u d (is_of u d) refl) ∙ q) (sym (unmark_block u e (is_of u e) refl) ∙ k)) b h

pairs_take : (n : ℕ) (b : List Entry) → HasNoBlockTwice b → HasNoBlockTwice (take n b)
pairs_take zero b h = λ i j d l m. absurd (omega arith)
pairs_take (suc n) [] h = h
pairs_take (suc n) (e ∷ es) h =
    AllPairs-cons BlocksDiffer e (take n es) (All-take (BlocksDiffer e) n es (pairs_head BlocksDiffer e es h)) (pairs_take n es (pairs_tail BlocksDiffer e es h))

pub blocks_assigned : (u : ℕ) (b : List Entry) → holds b u ≡ false → HasNoBlockTwice b → HasNoBlockTwice (assigned u b)
unfolding assigned
blocks_assigned u b none h =
    AllPairs-cons BlocksDiffer (record { slot = (victim b).slot; block = Some u; updated = false }) (take (length b - 1) b)
    (λ k d l v q r. All-take (λ e. e.block ≢ Some u) (length b - 1) b (lacks_block u b none) k d l (r ∙ sym q)) (pairs_take (length b - 1) b h)

-- the entry of a block that a buffer has comes to the front
pub touched_block : (u : ℕ) (b : List Entry) → AreBuffers b → holds b u ≡ true → (entry_at (moved_front (slot_of b u) b) 0).block ≡ Some u
unfolding entry_at
touched_block u b h k = grind (arith, place_held, slot_here, moved_at, of_from_block, passes_at_first)

pub holds_assigned : (u : ℕ) (b : List Entry) → holds (assigned u b) u ≡ true
unfolding holds assigned
holds_assigned u b = let yes : (u == u) ≡ true = eq-eqb u u refl in rw yes refl

pub slot_assigned : (u : ℕ) (b : List Entry) → slot_of (assigned u b) u ≡ (victim b).slot
unfolding slot_of assigned
slot_assigned u b = let yes : (u == u) ≡ true = eq-eqb u u refl in rw (slot_of, yes) refl

pub moved_permutes : (slot : ℕ) (b : List Entry) → IsPermutation b (moved_front slot b)
unfolding moved_front
moved_permutes slot b = IsPermutation-filter_both (is_in slot) (is_elsewhere slot) (λ e. refl) b

pub length-references : (slots : List ℕ) (b : List Entry) → length (after_references slots b) ≡ length b
unfolding after_references
length-references [] b = refl
length-references (slot ∷ slots) b = length-references slots (moved_front slot b) ∙ length-moved_front slot b

-- so do references one after the other
pub references_permute : (b : List Entry) (slots : List ℕ) → IsPermutation b (after_references slots b)
unfolding after_references
references_permute b [] = IsPermutation-refl b
references_permute b (slot ∷ slots) =
    IsPermutation-trans b (moved_front slot b) (after_references slots (moved_front slot b)) (moved_permutes slot b) (references_permute (moved_front slot b) slots)
