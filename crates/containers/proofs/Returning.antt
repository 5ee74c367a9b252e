use Rattle.std.proofs.Common.{◌≡◌, ◌≢◌, ◌∙◌, ◌⊎◌, inl, inr, ℕ, zero, suc, ◌+◌, ◌-◌, ◌<◌, ◌≤◌, Bool, not, nat_lt, Option, None, Some, if◌then◌else◌, List, ◌++◌, length, get_or, set, drop, arith, refl, ap, sym, length-append, length-drop, length-set, append_assoc, append-nil, replicate}
use Rattle.std.proofs.lemmas.List.{ext_get_or, get_or_append_left, get_or-append_right, get_or-drop, get_or-set_same, get_or-set_other}
use Rattle.std.proofs.lemmas.Bool.{cases_eq, cases_lt}
use Rattle.containers.specs.Layouts.{IsLayout, Layout, place}
use Rattle.std.proofs.lemmas.Bool.{ltb-false}
use Rattle.containers.specs.declared.cause.Cause.{Cause}
use Rattle.containers.specs.declared.cause.Cause.TheVariants.{CutBlock, NoRoom}
use Rattle.containers.specs.Containers.{IsBeside, IsRead, IsWritten, blank_sectors, capacity, unread, unwritten, unwritten_by}
use Rattle.containers.proofs.Places.{place_one, capacity_same}

-- a byte of the first n is at a place, or none does
data Lies (l : Layout) (n at : ℕ) : Type 0 where
  lies : (i : ℕ) → i < n → place l i ≡ at → Lies l n at
  beside : IsBeside l n at → Lies l n at

beside-more : (l : Layout) (n at i : ℕ) → IsBeside l n at → (place l n ≡ at → ⊥) → i < suc n → (i ≡ n) ⊎ (i ≡ n → ⊥) → place l i ≢ at
beside-more l n at i h e below x7 = grind arith

lies-more : (l : Layout) (n at : ℕ) → Lies l n at → (place l n ≡ at) ⊎ (place l n ≡ at → ⊥) → Lies l (suc n) at
lies-more l n at (lies i below e) q = lies i (omega arith) e
lies-more l n at (beside h) (inl e) = lies n (omega arith) e
lies-more l n at (beside h) (inr e) = beside (λ i below. beside-more l n at i h e below (cases_eq i n))

either : (l : Layout) (n at : ℕ) → Lies l n at
either l zero at = beside (λ i below. absurd (omega arith))
either l (suc n) at = lies-more l n at (either l n at) (cases_eq (place l n) at)

same-at : (l : Layout) (container other screens written : List ℕ) (at : ℕ) → IsRead l container screens → IsWritten l screens other written →
    ((k : ℕ) → IsBeside l (length screens) k → get_or other k 0 ≡ get_or container k 0) → Lies l (length screens) at → get_or written at 0 ≡ get_or container at 0
same-at l container other screens written at r w same x9 = grind arith

pub returned : (l : Layout) (container other screens written : List ℕ) → IsRead l container screens → IsWritten l screens other written → length other ≡ length container →
    ((at : ℕ) → IsBeside l (length screens) at → get_or other at 0 ≡ get_or container at 0) → written ≡ container
returned l container other screens written r w size same =
    ext_get_or 0 written container (w.size ∙ size) (λ at below. same-at l container other screens written at r w same (either l (length screens) at))

again-at : (l : Layout) (container old screens written again : List ℕ) (i : ℕ) → IsLayout l → IsRead l container old → length screens ≤ length old → IsWritten l screens container written → IsRead l written again →
    i < length again → (i < length screens) ⊎ (length screens ≤ i) → get_or again i 0 ≡ get_or (screens ++ drop (length screens) old) i 0
again-at l container old screens written again i h r fits w a below x13 = grind (arith, get_or_append_left, capacity_same, place_one, get_or-drop, get_or-append_right)

pub read_again : (l : Layout) (container old screens written again : List ℕ) → IsLayout l → IsRead l container old → length screens ≤ length old → IsWritten l screens container written → IsRead l written again →
    again ≡ screens ++ drop (length screens) old
read_again l container old screens written again h r fits w a =
    let sizes : length again ≡ length old = a.size ∙ capacity_same l written container w.size ∙ sym r.size in
    ext_get_or 0 again (screens ++ drop (length screens) old) (omega (arith, length-append screens (drop (length screens) old), length-drop (length screens) old))
    (λ i below. again-at l container old screens written again i h r fits w a below (cases_lt i (length screens)))

-- the first n bytes are written
pub record HasFirst (l : Layout) (n : ℕ) (screens old new : List ℕ) : Type 0 where
  pub size : length new ≡ length old
  pub bytes : (i : ℕ) → i < n → get_or new (place l i) 0 ≡ get_or screens i 0
  pub kept : (at : ℕ) → IsBeside l n at → get_or new at 0 ≡ get_or old at 0

put-at : (l : Layout) (n i : ℕ) (screens old new : List ℕ) → IsLayout l → HasFirst l n screens old new → place l n < length new → i < n + 1 → (i ≡ n) ⊎ (i ≡ n → ⊥) →
    get_or (set new (place l n) (get_or screens n 0)) (place l i) 0 ≡ get_or screens i 0
put-at l n i screens old new h f fits below x10 = grind (arith, get_or-set_same, place_one, get_or-set_other)

pub one_more : (l : Layout) (n : ℕ) (screens old new : List ℕ) → IsLayout l → HasFirst l n screens old new → place l n < length new → HasFirst l (n + 1) screens old (set new (place l n) (get_or screens n 0))
one_more l n screens old new h f fits = grind (arith, length-set, put-at, cases_eq, get_or-set_other)

-- screens that are written into a container
pub record Writable (l : Layout) (screens c : List ℕ) : Type 0 where
  pub read : unread l c ≡ None
  pub fits : length screens ≤ capacity l c

writable-fits : (l : Layout) (screens c : List ℕ) (w t : Bool) → nat_lt (capacity l c) (length screens) ≡ t →
    (if not w then Some CutBlock else if t then Some NoRoom else None) ≡ None → length screens ≤ capacity l c
writable-fits l screens c w t a e = grind (arith, ltb-false)

writable-by : (l : Layout) (screens c : List ℕ) (o : Option Cause) → unread l c ≡ o → unwritten_by o l screens c ≡ None → Writable l screens c
writable-by l screens c o a e = grind (arith, writable-fits)

pub writable : (l : Layout) (screens c : List ℕ) → unwritten l screens c ≡ None → Writable l screens c
unfolding unwritten
writable l screens c e = writable-by l screens c (unread l c) refl e

-- a new container, a sector on and at the end
pub blanks_more : (l : Layout) (front part all : List ℕ) (at n : ℕ) → at < n → front ++ blank_sectors l (n - at) ≡ all → part ≡ replicate l.sector 32 ++ l.ending →
    (front ++ part) ++ blank_sectors l (n - (at + 1)) ≡ all
unfolding blank_sectors
blanks_more l front part all at n below e is =
    let more : n - at ≡ suc (n - (at + 1)) = omega arith in
    append_assoc front part (blank_sectors l (n - (at + 1))) ∙ ap (λ p. front ++ (p ++ blank_sectors l (n - (at + 1)))) is ∙ sym (ap (λ k. front ++ blank_sectors l k) more) ∙ e

pub blanks_end : (l : Layout) (front all : List ℕ) (at n : ℕ) → n ≤ at → front ++ blank_sectors l (n - at) ≡ all → front ≡ all
unfolding blank_sectors
blanks_end l front all at n end e = grind (arith, append-nil)
