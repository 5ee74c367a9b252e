-- The updated entry with the lowest slot.
use Rattle.std.proofs.Common.{◌≡◌, ℕ, zero, suc, ◌<◌, ◌≤◌, List, [], ◌∷◌, true, false, Bool, arith, refl, length, ap, sym, subst, cond, nat_lt}
use Rattle.std.specs.Prelude.{fold, filter, All, IsSome, Contains}
use Rattle.std.specs.List.{list_any}
use Rattle.std.proofs.lemmas.List.Elements.{All-head, All-tail, All-nil, All-cons, All-filter, All-contains, All-weaker, All-contains_itself, filter_passes}
use Rattle.block_buffers.specs.declared.entry.Entry.{Entry}
use Rattle.block_buffers.specs.Entries.{unassigned_slot, is_updated, lower_of, has_updated, first_updated, AreBuffers, IsLowestUpdated}

-- what every list of buffers knows of an updated entry
pub record IsMarked (e : Entry) : Type 0 where
  pub marked : e.updated ≡ true
  pub small : e.slot < 16
  pub assigned : IsSome e.block

lower_yes : (d e : Entry) → nat_lt e.slot d.slot ≡ true → lower_of d e ≡ e
lower_yes d e q = rw q refl

lower_no : (d e : Entry) → nat_lt e.slot d.slot ≡ false → lower_of d e ≡ d
lower_no d e q = rw q refl

lower_marked : (d e : Entry) (b : Bool) → nat_lt e.slot d.slot ≡ b → IsMarked d → IsMarked e → IsMarked (lower_of d e)
lower_marked d e b q h k = grind arith

-- the lowest of a marked entry and more of them
fold_marked : (d : Entry) (es : List Entry) → IsMarked d → All IsMarked es → IsMarked (fold lower_of d es)
fold_marked d [] h k = h
fold_marked d (e ∷ es) h k = fold_marked (lower_of d e) es (lower_marked d e (nat_lt e.slot d.slot) refl h (All-head IsMarked e es k)) (All-tail IsMarked e es k)

-- the same after a slot that no entry has
after_all : (es : List Entry) → 0 < length es → All IsMarked es → IsMarked (fold lower_of (unassigned_slot 16) es)
after_all [] l k = absurd (omega arith)
after_all (e ∷ es) l k =
    let yes : nat_lt e.slot 16 ≡ true = grind (arith, (All-head IsMarked e es k).small)
    in rw (lower_yes (unassigned_slot 16) e yes) (fold_marked e es (All-head IsMarked e es k) (All-tail IsMarked e es k))

marked_kept : (b : List Entry) → All (λ e. e.slot < 16) b → All (λ e. e.updated ≡ true → IsSome e.block) b → All IsMarked (filter is_updated b)
marked_kept b s h =
    λ k d l. record {
      marked = filter_passes is_updated b k d l;
      small = All-filter is_updated (λ e. e.slot < 16) b s k d l;
      assigned = All-filter is_updated (λ e. e.updated ≡ true → IsSome e.block) b h k d l (filter_passes is_updated b k d l);
    }

kept_some : (b : List Entry) → list_any is_updated b ≡ true → 0 < length (filter is_updated b)
kept_some [] h = cc
kept_some (e ∷ es) h = by_mark e.updated refl (kept_some es) where
  by_mark : (m : Bool) → e.updated ≡ m → (list_any is_updated es ≡ true → 0 < length (filter is_updated es)) → 0 < length (filter is_updated (e ∷ es))
  by_mark true q rest = rw q (omega arith)
  by_mark false q rest = rw q (rest (rw q at h))

kept_none : (b : List Entry) → list_any is_updated b ≡ false → filter is_updated b ≡ []
kept_none [] h = refl
kept_none (e ∷ es) h = by_mark e.updated refl (kept_none es) where
  by_mark : (m : Bool) → e.updated ≡ m → (list_any is_updated es ≡ false → filter is_updated es ≡ []) → filter is_updated (e ∷ es) ≡ []
  by_mark true q rest = let no : true ≡ false = rw q at h in cc
  by_mark false q rest = rw q (rest (rw q at h))

slots_few : (b : List Entry) → AreBuffers b → All (λ e. e.slot < 16) b
slots_few b h = All-weaker (λ e. e.slot < length b) (λ e. e.slot < 16) (λ e l. omega (arith, h.count.1, l)) b h.slots

pub first_marked : (b : List Entry) → AreBuffers b → has_updated b ≡ true → IsMarked (first_updated b)
unfolding has_updated first_updated
first_marked b h q = after_all (filter is_updated b) (kept_some b q) (marked_kept b (slots_few b h) h.updated_have)

none_updated : (b : List Entry) → has_updated b ≡ false → first_updated b ≡ unassigned_slot 16
unfolding has_updated first_updated
none_updated b q = ap (fold lower_of (unassigned_slot 16)) (kept_none b q)

updated_when : (b : List Entry) (m : Bool) → has_updated b ≡ m → (first_updated b).updated ≡ true → has_updated b ≡ true
updated_when b m q h = grind (arith, none_updated)

pub updated_first : (b : List Entry) → (first_updated b).updated ≡ true → has_updated b ≡ true
updated_first b h = updated_when b (has_updated b) refl h

clean_when : (b : List Entry) (m : Bool) → has_updated b ≡ m → AreBuffers b → (first_updated b).updated ≡ false → has_updated b ≡ false
clean_when b m q h k = grind (arith, first_marked)

pub clean_first : (b : List Entry) → AreBuffers b → (first_updated b).updated ≡ false → has_updated b ≡ false
clean_first b h k = clean_when b (has_updated b) refl h k

pub first_block : (b : List Entry) → AreBuffers b → has_updated b ≡ true → IsSome (first_updated b).block
first_block b h q = (first_marked b h q).assigned

lower_below : (d e : Entry) (m : Bool) → nat_lt e.slot d.slot ≡ m → ((lower_of d e).slot ≤ d.slot) × ((lower_of d e).slot ≤ e.slot)
lower_below d e m q = grind arith

fold_lowest : (d : Entry) (es : List Entry) → ((fold lower_of d es).slot ≤ d.slot) × All (λ e. (fold lower_of d es).slot ≤ e.slot) es
fold_lowest d [] = (omega arith, All-nil (λ e. d.slot ≤ e.slot))
fold_lowest d (e ∷ es) = grind (arith, lower_below, fold_lowest (lower_of d e) es)

-- one element is in front of the list, or before its tail
skipped : (d e : Entry) (es : List Entry) (x : Entry) → Contains (d ∷ es) x → Contains (d ∷ e ∷ es) x
skipped d e es x (zero, l, q) = (0, omega arith, q)
skipped d e es x (suc k, l, q) = (suc (suc k), omega arith, q)

lower_one_of : (d e : Entry) (es : List Entry) (x : Entry) (m : Bool) → nat_lt e.slot d.slot ≡ m → Contains (lower_of d e ∷ es) x → Contains (d ∷ e ∷ es) x
lower_one_of d e es x m q h = grind (arith, lower_yes, skipped, lower_no)

-- the fold gives the first entry or one of the others
fold_one_of : (d : Entry) (es : List Entry) → Contains (d ∷ es) (fold lower_of d es)
fold_one_of d [] = (0, omega arith, refl)
fold_one_of d (e ∷ es) = lower_one_of d e es (fold lower_of (lower_of d e) es) (nat_lt e.slot d.slot) refl (fold_one_of (lower_of d e) es)

kept_one_of : (b : List Entry) (x : Entry) → Contains (filter is_updated b) x → Contains b x
kept_one_of b x h = All-contains (Contains b) (filter is_updated b) x (All-filter is_updated (Contains b) b (All-contains_itself b)) h

kept_lowest : (n : ℕ) (b : List Entry) → All (λ e. n ≤ e.slot) (filter is_updated b) → All (λ e. e.updated ≡ true → n ≤ e.slot) b
kept_lowest n [] h = λ k d l. absurd (omega arith)
kept_lowest n (e ∷ es) h = by_mark e.updated refl (kept_lowest n es) where
  by_mark : (m : Bool) → e.updated ≡ m → (All (λ f. n ≤ f.slot) (filter is_updated es) → All (λ f. f.updated ≡ true → n ≤ f.slot) es) → All (λ f. f.updated ≡ true → n ≤ f.slot) (e ∷ es)
  by_mark true q rest =
      let P : List Entry → Type 0 = λ fs. All (λ f. n ≤ f.slot) fs
      in let all : All (λ f. n ≤ f.slot) (e ∷ filter is_updated es) = subst P (ap (λ (m : Bool). cond m (e ∷ filter is_updated es) (filter is_updated es)) q) h
      in All-cons (λ f. f.updated ≡ true → n ≤ f.slot) e es (λ _. All-head (λ f. n ≤ f.slot) e (filter is_updated es) all) (rest (All-tail (λ f. n ≤ f.slot) e (filter is_updated es) all))
  by_mark false q rest =
      All-cons (λ f. f.updated ≡ true → n ≤ f.slot) e es (λ r. cc) (rest (rw q at h))

-- the entries that are marked, of which there is one
lowest_of : (es : List Entry) → 0 < length es → All IsMarked es → Contains es (fold lower_of (unassigned_slot 16) es) × All (λ e. (fold lower_of (unassigned_slot 16) es).slot ≤ e.slot) es
lowest_of [] l h = absurd (omega arith)
lowest_of (e ∷ es) l h =
    let yes : nat_lt e.slot 16 ≡ true = grind (arith, (All-head IsMarked e es h).small)
    in let P : Entry → Type 0 = λ x. Contains (e ∷ es) (fold lower_of x es) × All (λ f. (fold lower_of x es).slot ≤ f.slot) (e ∷ es)
    in subst P (sym (lower_yes (unassigned_slot 16) e yes)) (fold_one_of e es, All-cons (λ f. (fold lower_of e es).slot ≤ f.slot) e es (fold_lowest e es).0 (fold_lowest e es).1)

-- it is one of the list, it is updated, and no updated one has a lower slot
pub first_is_lowest : (b : List Entry) → AreBuffers b → has_updated b ≡ true → IsLowestUpdated b (first_updated b)
unfolding has_updated first_updated
first_is_lowest b h q =
    let kept : All IsMarked (filter is_updated b) = marked_kept b (slots_few b h) h.updated_have
    in let lowest : Contains (filter is_updated b) (first_updated b) × All (λ e. (first_updated b).slot ≤ e.slot) (filter is_updated b) = lowest_of (filter is_updated b) (kept_some b q) kept
    in record {
      one = kept_one_of b (first_updated b) lowest.0;
      marked = (first_marked b h q).marked;
      lowest = kept_lowest (first_updated b).slot b lowest.1;
    }

pub first_slot : (b : List Entry) → AreBuffers b → has_updated b ≡ true → (first_updated b).slot < length b
first_slot b h q = All-contains (λ e. e.slot < length b) b (first_updated b) h.slots (first_is_lowest b h q).one

pub ruleset firsts = (updated_first, clean_first, first_slot, first_block)
