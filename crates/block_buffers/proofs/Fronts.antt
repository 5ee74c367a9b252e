-- Entries that come to the front.
use Rattle.std.proofs.Common.{◌≡◌, ◌≢◌, ℕ, zero, suc, ◌-◌, ◌<◌, ◌==◌, List, [], ◌∷◌, length, get_or, set, take, Some, refl, arith, ap, true, false, is_some, sym}
use Rattle.std.specs.Prelude.{remove, filter, AllPairs}
use Rattle.std.proofs.lemmas.Bool.{eq-eqb, ne_eqb}
use Rattle.std.proofs.lemmas.List.{get_or_default}
use Rattle.block_buffers.specs.declared.entry.Entry.{Entry}
use Rattle.block_buffers.specs.Entries.{is_in, is_elsewhere, moved_front, assigned, front_marked, entry_at}
use Rattle.std.proofs.lemmas.Grind.{common_steps}

-- no two entries have the same slot
abbrev pub SlotsDiffer : List Entry → Type 0
SlotsDiffer b = AllPairs (λ d e. d.slot ≢ e.slot) b

rest_differ : (e : Entry) (es : List Entry) → SlotsDiffer (e ∷ es) → SlotsDiffer es
rest_differ e es h = λ i j d l m. h (suc i) (suc j) d (omega arith) (omega arith)

-- no entry of the list has this slot
abbrev pub Lacks : ℕ → List Entry → Type 0
Lacks slot es = (k : ℕ) (d : Entry) → k < length es → slot ≢ (get_or es k d).slot

none_in : (slot : ℕ) (es : List Entry) → Lacks slot es → filter (is_in slot) es ≡ []
none_in slot [] h = refl
none_in slot (e ∷ es) h =
    let here : (e.slot == slot) ≡ false = ne_eqb e.slot slot (λ q. h 0 e (omega arith) (sym q))
    in rw here (none_in slot es (λ k d l. h (suc k) d (omega arith)))

pub all_elsewhere : (slot : ℕ) (es : List Entry) → Lacks slot es → filter (is_elsewhere slot) es ≡ es
all_elsewhere slot [] h = refl
all_elsewhere slot (e ∷ es) h =
    let here : (e.slot == slot) ≡ false = ne_eqb e.slot slot (λ q. h 0 e (omega arith) (sym q))
    in rw here (ap (λ (xs : List Entry). e ∷ xs) (all_elsewhere slot es (λ k d l. h (suc k) d (omega arith))))

pub one_in : (i : ℕ) (es : List Entry) (d : Entry) → i < length es → SlotsDiffer es → filter (is_in (get_or es i d).slot) es ≡ get_or es i d ∷ []
one_in i [] d l h = absurd (omega arith)
one_in zero (e ∷ es) d l h =
    let here : (e.slot == e.slot) ≡ true = eq-eqb e.slot e.slot refl
    in rw here (ap (λ (xs : List Entry). e ∷ xs) (none_in e.slot es (λ k f m. h 0 (suc k) f (omega arith) (omega arith))))
one_in (suc i) (e ∷ es) d l h =
    let here : (e.slot == (get_or es i d).slot) ≡ false = ne_eqb e.slot (get_or es i d).slot (h 0 (suc i) d (omega arith) l)
    in rw here (one_in i es d (omega arith) (rest_differ e es h))

others_elsewhere : (i : ℕ) (es : List Entry) (d : Entry) → i < length es → SlotsDiffer es → filter (is_elsewhere (get_or es i d).slot) es ≡ remove es i
others_elsewhere i [] d l h = absurd (omega arith)
others_elsewhere zero (e ∷ es) d l h =
    let here : (e.slot == e.slot) ≡ true = eq-eqb e.slot e.slot refl
    in rw here (all_elsewhere e.slot es (λ k f m. h 0 (suc k) f (omega arith) (omega arith)))
others_elsewhere (suc i) (e ∷ es) d l h =
    let here : (e.slot == (get_or es i d).slot) ≡ false = ne_eqb e.slot (get_or es i d).slot (h 0 (suc i) d (omega arith) l)
    in rw here (ap (λ (xs : List Entry). e ∷ xs) (others_elsewhere i es d (omega arith) (rest_differ e es h)))

pub moved_at : (i : ℕ) (es : List Entry) (d : Entry) → i < length es → SlotsDiffer es → moved_front (get_or es i d).slot es ≡ get_or es i d ∷ remove es i
unfolding moved_front
moved_at i es d l h = rw (one_in i es d l h, others_elsewhere i es d l h) refl

pub last_removed : (i : ℕ) (es : List Entry) → suc i ≡ length es → remove es i ≡ take i es
last_removed i es h = grind (arith, common_steps)

pub assigned_at : (u : ℕ) (es : List Entry) (d : Entry) → length es - 1 < length es
    → assigned u es ≡ record { slot = (get_or es (length es - 1) d).slot; block = Some u; updated = false } ∷ remove es (length es - 1)
unfolding assigned entry_at
assigned_at u es d h = grind (arith, get_or_default, last_removed)

pub front_some : (es : List Entry) (d : Entry) → 0 < length es → is_some (get_or es 0 d).block ≡ true → front_marked es ≡ set es 0 (record (get_or es 0 d) { updated = true })
unfolding front_marked
front_some es d h q = grind arith

pub front_none : (es : List Entry) (d : Entry) → 0 < length es → is_some (get_or es 0 d).block ≡ false → front_marked es ≡ es
unfolding front_marked
front_none es d h q = grind arith

pub ruleset fronts = (front_some, front_none)
