-- What holds of each end of a row holds of the row, by its shape.
use Rattle.std.proofs.Common.{◌≡◌, ℕ, ◌≤◌, arith, refl, List, length, nat_lt, Bool, true, false, inl, inr, if◌then◌else◌}
use Rattle.std.proofs.lemmas.Bool.{cases_lt}
use Rattle.std.proofs.lemmas.Grind.{common_steps}
use Rattle.machine_parts.specs.Whole.{Whole}
use Rattle.machine_parts.specs.Row.{After, takes1, takes2, takes3, takes4, takes6, takes_r1, takes_r3, takes_r4, fault, room, room_r}
use Rattle.machine_parts.proofs.Takes.{takes1_none, takes1_deep, takes2_none, takes2_deep, takes3_none, takes3_deep, takes4_none, takes4_deep, takes6_none, takes6_deep, takes_r1_none, takes_r1_deep, takes_r3_none, takes_r3_deep, takes_r4_none, takes_r4_deep}

pub by_if : (P : After → Type 0) (b : Bool) (x y : After) → P x → P y → P (if b then x else y)
by_if P true x y h k = h
by_if P false x y h k = k

pub by_room : (P : After → Type 0) (s : Whole) (d : List ℕ) (x : After) → P (fault s 2) → P x → P (room s d x)
unfolding room
by_room P s d x none h = by_if P (nat_lt 256 (length d)) (fault s 2) x none h

-- the same, by what is known if there is room
pub by_room_or : (P : After → Type 0) (s : Whole) (d : List ℕ) (x : After) → P (fault s 2) → (length d ≤ 256 → P x) → P (room s d x)
unfolding room
by_room_or P s d x none h = by_test (nat_lt 256 (length d)) refl where
  by_test : (b : Bool) → nat_lt 256 (length d) ≡ b → P (if b then fault s 2 else x)
  by_test true q = none
  by_test false q = h (grind (arith, common_steps))

pub by_room_r : (P : After → Type 0) (s : Whole) (r : List ℕ) (x : After) → P (fault s 4) → P x → P (room_r s r x)
unfolding room_r
by_room_r P s r x none h = by_if P (nat_lt 256 (length r)) (fault s 4) x none h

pub by_takes1 : (P : After → Type 0) (s : Whole) (f : ℕ → List ℕ → After) → P (fault s 1) → ((c0 : ℕ) (d : List ℕ) → P (f c0 d)) → P (takes1 s f)
by_takes1 P s f none h = elim (cases_lt (length s.values) 1) [
  | inl shallow ↦ rw (takes1_none s f shallow) none
  | inr deep ↦ rw (takes1_deep s f deep) (h _ _)
]

pub by_takes2 : (P : After → Type 0) (s : Whole) (f : ℕ → ℕ → List ℕ → After) → P (fault s 1) → ((c0 c1 : ℕ) (d : List ℕ) → P (f c0 c1 d)) → P (takes2 s f)
by_takes2 P s f none h = elim (cases_lt (length s.values) 2) [
  | inl shallow ↦ rw (takes2_none s f shallow) none
  | inr deep ↦ rw (takes2_deep s f deep) (h _ _ _)
]

pub by_takes3 : (P : After → Type 0) (s : Whole) (f : ℕ → ℕ → ℕ → List ℕ → After) → P (fault s 1) → ((c0 c1 c2 : ℕ) (d : List ℕ) → P (f c0 c1 c2 d)) → P (takes3 s f)
by_takes3 P s f none h = elim (cases_lt (length s.values) 3) [
  | inl shallow ↦ rw (takes3_none s f shallow) none
  | inr deep ↦ rw (takes3_deep s f deep) (h _ _ _ _)
]

pub by_takes4 : (P : After → Type 0) (s : Whole) (f : ℕ → ℕ → ℕ → ℕ → List ℕ → After) → P (fault s 1) → ((c0 c1 c2 c3 : ℕ) (d : List ℕ) → P (f c0 c1 c2 c3 d)) → P (takes4 s f)
by_takes4 P s f none h = elim (cases_lt (length s.values) 4) [
  | inl shallow ↦ rw (takes4_none s f shallow) none
  | inr deep ↦ rw (takes4_deep s f deep) (h _ _ _ _ _)
]

pub by_takes6 : (P : After → Type 0) (s : Whole) (f : ℕ → ℕ → ℕ → ℕ → ℕ → ℕ → List ℕ → After) → P (fault s 1) → ((c0 c1 c2 c3 c4 c5 : ℕ) (d : List ℕ) → P (f c0 c1 c2 c3 c4 c5 d)) → P (takes6 s f)
by_takes6 P s f none h = elim (cases_lt (length s.values) 6) [
  | inl shallow ↦ rw (takes6_none s f shallow) none
  | inr deep ↦ rw (takes6_deep s f deep) (h _ _ _ _ _ _ _)
]

pub by_takes_r1 : (P : After → Type 0) (s : Whole) (f : ℕ → List ℕ → After) → P (fault s 3) → ((c0 : ℕ) (r : List ℕ) → P (f c0 r)) → P (takes_r1 s f)
by_takes_r1 P s f none h = elim (cases_lt (length s.returns) 1) [
  | inl shallow ↦ rw (takes_r1_none s f shallow) none
  | inr deep ↦ rw (takes_r1_deep s f deep) (h _ _)
]

pub by_takes_r3 : (P : After → Type 0) (s : Whole) (f : ℕ → ℕ → ℕ → List ℕ → After) → P (fault s 3) → ((c0 c1 c2 : ℕ) (r : List ℕ) → P (f c0 c1 c2 r)) → P (takes_r3 s f)
by_takes_r3 P s f none h = elim (cases_lt (length s.returns) 3) [
  | inl shallow ↦ rw (takes_r3_none s f shallow) none
  | inr deep ↦ rw (takes_r3_deep s f deep) (h _ _ _ _)
]

pub by_takes_r4 : (P : After → Type 0) (s : Whole) (f : ℕ → ℕ → ℕ → ℕ → List ℕ → After) → P (fault s 3) → ((c0 c1 c2 c3 : ℕ) (r : List ℕ) → P (f c0 c1 c2 c3 r)) → P (takes_r4 s f)
by_takes_r4 P s f none h = elim (cases_lt (length s.returns) 4) [
  | inl shallow ↦ rw (takes_r4_none s f shallow) none
  | inr deep ↦ rw (takes_r4_deep s f deep) (h _ _ _ _ _)
]
