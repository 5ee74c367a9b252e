-- The members of a chain enter the table one by one, from the newest on.
use Rattle.std.proofs.Common.{◌≡◌, ◌≢◌, ℕ, ◌%◌, ◌<◌, ◌≤◌, ◌==◌, List, length, Bool, true, false, refl, arith, sym, ◌∙◌, slice_index, slice_set, inl, inr, subst}
use Rattle.std.proofs.lemmas.Bool.{cases_lt}
use Rattle.std.proofs.lemmas.Grind.{common_steps, get_or-set_at}
use Rattle.std.proofs.lemmas.List.{get_or-set_other}
use Rattle.dictionary.specs.Header.{name_of}
use Rattle.name_index.specs.Slots.{slot_in}
use Rattle.name_index.specs.declared.index.NameIndex.{NameIndex}
use Rattle.name_index.specs.Index.{Same, Serves, Holds, slots_of}
use Rattle.name_index.proofs.Alike.{Member}
use Rattle.name_index.proofs.Walks.{same_sym, same_trans, same_more, same_up, same_past}

-- a fact of each greater top
abbrev pub Above : ℕ → (ℕ → Type 0) → Type 0
Above top P = (more : ℕ) → top ≤ more → more < 65536 → P more

-- Between the first member f and the one that was known is member l; slot k holds t. A t that is newer than the known
-- one was put there, and serves f once it is shown that searches from l on don't hang on how far they look. An older one
-- serves the known one, and a search from f on comes to l.
pub record Round (top : ℕ) (m : List ℕ) (k known f l t : ℕ) : Type 0 where
  pub steady : Same top m k known known
  pub newer : known < t → (t ≤ f) × Above top (λ more. Same more m k l l → Same more m k f t)
  pub older : t ≤ known → Same top m k known t × Above top (λ more. Same more m k l l → Same more m k f l)

first_round : (top k known f t : ℕ) (m : List ℕ) → Serves top m k known t → Round top m k known f f t
first_round top k known f t m serves = grind (arith, same_trans, same_sym)

-- member l, its link x, and the top that it asks for
member_of : (top more l x : ℕ) (m : List ℕ) → top ≤ more → more < 65536 → Member top m l x → Member more m l x
member_of top more l x m le small is = grind arith

next_newer : (old top k known f l x t : ℕ) (m : List ℕ) → old ≤ top → Member top m l x → Round old m k known f l t
    → known < t → (t ≤ f) × Above top (λ more. Same more m k x x → Same more m k f t)
next_newer old top k known f l x t m le is round h =
    let r = round.newer h in
    (r.0, λ more up small e. r.1 more (omega (arith, le, up)) small (same_up more k l x m (member_of top more l x m up small is) e))

next_kept : (old top k known f l x t : ℕ) (m : List ℕ) → old ≤ top → Member top m l x → known < t → Round old m k known f l t → Round top m k known f x t
next_kept old top k known f l x t m le is h round = record {
  steady = same_more old top k known known m le round.steady;
  newer = next_newer old top k known f l x t m le is round;
  older = λ none. absurd (omega (arith, none, h));
}

next_other : (old top k class known f l x t : ℕ) (m : List ℕ) → old ≤ top → Member top m l x → k % 4 ≡ class → slot_in class (name_of m l) ≢ k
    → Round old m k known f l t → Round top m k known f x t
next_other old top k class known f l x t m le is c other round = record {
  steady = same_more old top k known known m le round.steady;
  newer = next_newer old top k known f l x t m le is round;
  older = λ h. let r = round.older h in (
    same_more old top k known t m le r.0,
    λ more up small e.
        let here : Member more m l x = member_of top more l x m up small is in
        same_trans more k f l x m (r.1 more (omega (arith, le, up)) small (same_up more k l x m here e))
        (same_past more k class l x m here c other e),
  );
}

next_set : (old top k known f l x t : ℕ) (m : List ℕ) → old ≤ top → Member top m l x → known < l → l ≤ f → t ≤ known
    → Round old m k known f l t → Round top m k known f x l
next_set old top k known f l x t m le is above most h round = record {
  steady = same_more old top k known known m le round.steady;
  newer = λ some. let r = round.older h in (
    most,
    λ more up small e. r.1 more (omega (arith, le, up)) small (same_up more k l x m (member_of top more l x m up small is) e),
  );
  older = λ none. absurd (omega (arith, none, above));
}

-- all slots
pub record Rounds (top : ℕ) (m : List ℕ) (class known f l : ℕ) (before table : List ℕ) : Type 0 where
  pub slots : (k : ℕ) → k < 8192 → k % 4 ≡ class → Round top m k known f l (slice_index table k)
  pub others : (k : ℕ) → k < 8192 → k % 4 ≢ class → slice_index table k ≡ slice_index before k

pub first_rounds : (top class known f : ℕ) (m heads before : List ℕ) → slice_index heads class ≡ known
    → ((k : ℕ) → k < 8192 → Serves top m k (slice_index heads (k % 4)) (slice_index before k)) → Rounds top m class known f f before before
first_rounds top class known f m heads before e serves = grind (arith, first_round)

-- an index that holds
pub begin_rounds : (limit class f : ℕ) (index : NameIndex) (m : List ℕ) → Holds limit index m
    → Rounds index.top m class (slice_index index.heads class) f f (slots_of index.table) (slots_of index.table)
unfolding Holds
begin_rounds limit class f index m holds = first_rounds index.top class (slice_index index.heads class) f m index.heads (slots_of index.table) refl holds.slots

pub begin_bound : (limit : ℕ) (index : NameIndex) (m : List ℕ) → Holds limit index m → 256 < index.top → index.top ≤ limit
unfolding Holds
begin_bound limit index m holds = holds.bound

pub same_number : (a b : ℕ) → (a == b) ≡ true → a ≡ b
same_number a b e = grind (arith, common_steps)

pub other_number : (a b : ℕ) → (a == b) ≡ false → a ≢ b
other_number a b e = grind (arith, common_steps)

kept_slot : (old top k class known f l x s t : ℕ) (m : List ℕ) (b : Bool) → (k == s) ≡ b → slot_in class (name_of m l) ≡ s → k % 4 ≡ class → (k ≡ s → known < t)
    → old ≤ top → Member top m l x → Round old m k known f l t → Round top m k known f x t
kept_slot old top k class known f l x s t m true e at c h le is round = next_kept old top k known f l x t m le is (h (same_number k s e)) round
kept_slot old top k class known f l x s t m false e at c h le is round =
    next_other old top k class known f l x t m le is c (λ q. other_number k s e (sym q ∙ at)) round

pub next_rounds_kept : (old top class known f l x s : ℕ) (m before table : List ℕ) → slot_in class (name_of m l) ≡ s → known < slice_index table s
    → old ≤ top → Member top m l x → Rounds old m class known f l before table → Rounds top m class known f x before table
next_rounds_kept old top class known f l x s m before table at h le is rounds = record {
  slots = λ k b c. kept_slot old top k class known f l x s (slice_index table k) m (k == s) refl at c
      (λ e. subst (λ (i : ℕ). known < slice_index table i) (sym e) h) le is (rounds.slots k b c);
  others = rounds.others;
}

set_slot : (old top k class known f l x s : ℕ) (m table : List ℕ) (b : Bool) → (k == s) ≡ b → s < length table → slot_in class (name_of m l) ≡ s → k % 4 ≡ class
    → slice_index table s ≤ known → known < l → l ≤ f → old ≤ top → Member top m l x → Round old m k known f l (slice_index table k)
    → Round top m k known f x (slice_index (slice_set table s l) k)
set_slot old top k class known f l x s m table true e len at c h above most le is round =
    let i : k ≡ s = same_number k s e in
    let v : slice_index (slice_set table s l) k ≡ l = get_or-set_at table s k l 0 i len in
    rw v (next_set old top k known f l x (slice_index table k) m le is above most (subst (λ (j : ℕ). slice_index table j ≤ known) (sym i) h) round)
set_slot old top k class known f l x s m table false e len at c h above most le is round =
    let v : slice_index (slice_set table s l) k ≡ slice_index table k = get_or-set_other table s k l 0 (other_number k s e) in
    rw v (next_other old top k class known f l x (slice_index table k) m le is c (λ q. other_number k s e (sym q ∙ at)) round)

set_other : (k s l class : ℕ) (table : List ℕ) → s % 4 ≡ class → k % 4 ≢ class → slice_index (slice_set table s l) k ≡ slice_index table k
set_other k s l class table at c = get_or-set_other table s k l 0 (λ e. c (subst (λ (i : ℕ). i % 4 ≡ class) (sym e) at))

pub next_rounds_set : (old top class known f l x s : ℕ) (m before table : List ℕ) → slot_in class (name_of m l) ≡ s → s % 4 ≡ class → s < length table
    → slice_index table s ≤ known → known < l → l ≤ f → old ≤ top → Member top m l x → Rounds old m class known f l before table
    → Rounds top m class known f x before (slice_set table s l)
next_rounds_set old top class known f l x s m before table at c len h above most le is rounds = record {
  slots = λ k b q. set_slot old top k class known f l x s m table (k == s) refl len at q h above most le is (rounds.slots k b q);
  others = λ k b q. set_other k s l class table c q ∙ rounds.others k b q;
}

pub next_rounds : (old top class known f l x s : ℕ) (m before table new : List ℕ) → slot_in class (name_of m l) ≡ s → s % 4 ≡ class → s < length table
    → (known < slice_index table s → new ≡ table) → (slice_index table s ≤ known → new ≡ slice_set table s l)
    → known < l → l ≤ f → old ≤ top → Member top m l x → Rounds old m class known f l before table → Rounds top m class known f x before new
next_rounds old top class known f l x s m before table new at c len kept set above most le is rounds = elim (cases_lt known (slice_index table s)) [
  | inl h ↦ rw (kept h) (next_rounds_kept old top class known f l x s m before table at h le is rounds)
  | inr h ↦ rw (set h) (next_rounds_set old top class known f l x s m before table at c len h above most le is rounds)
]
