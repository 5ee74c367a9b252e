use Rattle.std.proofs.Common.{◌≡◌, ℕ, ◌<◌, ◌≤◌, List, [], ◌∷◌, length, drop, slice_index, refl, arith}
use Rattle.machine_parts.specs.Whole.{Whole}
use Rattle.machine_parts.specs.Row.{takes1, takes2, takes3, takes4, takes6, takes_r1, takes_r3, takes_r4, fault, After}

at_takes1_none : (s : Whole) (d : List ℕ) → s.values ≡ d → (f : (ℕ → List ℕ → After)) → length d < 1 → takes1 s f ≡ fault s 1
unfolding takes1
at_takes1_none s [] e f h = rw e refl
at_takes1_none s (a ∷ d) e f h = absurd (omega arith)

pub takes1_none : (s : Whole) (f : (ℕ → List ℕ → After)) → length s.values < 1 → takes1 s f ≡ fault s 1
takes1_none s f h = at_takes1_none s s.values refl f h

at_takes1_deep : (s : Whole) (d : List ℕ) → s.values ≡ d → (f : (ℕ → List ℕ → After)) → 1 ≤ length d → takes1 s f ≡ f (slice_index d 0) (drop 1 d)
unfolding takes1
at_takes1_deep s [] e f h = absurd (omega arith)
at_takes1_deep s (a ∷ d) e f h = rw e refl

pub takes1_deep : (s : Whole) (f : (ℕ → List ℕ → After)) → 1 ≤ length s.values → takes1 s f ≡ f (slice_index s.values 0) (drop 1 s.values)
takes1_deep s f h = at_takes1_deep s s.values refl f h

at_takes2_none : (s : Whole) (d : List ℕ) → s.values ≡ d → (f : (ℕ → ℕ → List ℕ → After)) → length d < 2 → takes2 s f ≡ fault s 1
unfolding takes2
at_takes2_none s [] e f h = rw e refl
at_takes2_none s (a ∷ []) e f h = rw e refl
at_takes2_none s (a ∷ b ∷ d) e f h = absurd (omega arith)

pub takes2_none : (s : Whole) (f : (ℕ → ℕ → List ℕ → After)) → length s.values < 2 → takes2 s f ≡ fault s 1
takes2_none s f h = at_takes2_none s s.values refl f h

at_takes2_deep : (s : Whole) (d : List ℕ) → s.values ≡ d → (f : (ℕ → ℕ → List ℕ → After)) → 2 ≤ length d → takes2 s f ≡ f (slice_index d 1) (slice_index d 0) (drop 2 d)
unfolding takes2
at_takes2_deep s [] e f h = absurd (omega arith)
at_takes2_deep s (a ∷ []) e f h = absurd (omega arith)
at_takes2_deep s (a ∷ b ∷ d) e f h = rw e refl

pub takes2_deep : (s : Whole) (f : (ℕ → ℕ → List ℕ → After)) → 2 ≤ length s.values → takes2 s f ≡ f (slice_index s.values 1) (slice_index s.values 0) (drop 2 s.values)
takes2_deep s f h = at_takes2_deep s s.values refl f h

at_takes3_none : (s : Whole) (d : List ℕ) → s.values ≡ d → (f : (ℕ → ℕ → ℕ → List ℕ → After)) → length d < 3 → takes3 s f ≡ fault s 1
unfolding takes3
at_takes3_none s [] e f h = rw e refl
at_takes3_none s (a ∷ []) e f h = rw e refl
at_takes3_none s (a ∷ b ∷ []) e f h = rw e refl
at_takes3_none s (a ∷ b ∷ c ∷ d) e f h = absurd (omega arith)

pub takes3_none : (s : Whole) (f : (ℕ → ℕ → ℕ → List ℕ → After)) → length s.values < 3 → takes3 s f ≡ fault s 1
takes3_none s f h = at_takes3_none s s.values refl f h

at_takes3_deep : (s : Whole) (d : List ℕ) → s.values ≡ d → (f : (ℕ → ℕ → ℕ → List ℕ → After)) → 3 ≤ length d → takes3 s f ≡ f (slice_index d 2) (slice_index d 1) (slice_index d 0) (drop 3 d)
unfolding takes3
at_takes3_deep s [] e f h = absurd (omega arith)
at_takes3_deep s (a ∷ []) e f h = absurd (omega arith)
at_takes3_deep s (a ∷ b ∷ []) e f h = absurd (omega arith)
at_takes3_deep s (a ∷ b ∷ c ∷ d) e f h = rw e refl

pub takes3_deep : (s : Whole) (f : (ℕ → ℕ → ℕ → List ℕ → After)) → 3 ≤ length s.values → takes3 s f ≡ f (slice_index s.values 2) (slice_index s.values 1) (slice_index s.values 0) (drop 3 s.values)
takes3_deep s f h = at_takes3_deep s s.values refl f h

at_takes4_none : (s : Whole) (d : List ℕ) → s.values ≡ d → (f : (ℕ → ℕ → ℕ → ℕ → List ℕ → After)) → length d < 4 → takes4 s f ≡ fault s 1
unfolding takes4
at_takes4_none s [] e f h = rw e refl
at_takes4_none s (a ∷ []) e f h = rw e refl
at_takes4_none s (a ∷ b ∷ []) e f h = rw e refl
at_takes4_none s (a ∷ b ∷ c ∷ []) e f h = rw e refl
at_takes4_none s (a ∷ b ∷ c ∷ e4 ∷ d) e f h = absurd (omega arith)

pub takes4_none : (s : Whole) (f : (ℕ → ℕ → ℕ → ℕ → List ℕ → After)) → length s.values < 4 → takes4 s f ≡ fault s 1
takes4_none s f h = at_takes4_none s s.values refl f h

at_takes4_deep : (s : Whole) (d : List ℕ) → s.values ≡ d → (f : (ℕ → ℕ → ℕ → ℕ → List ℕ → After)) → 4 ≤ length d → takes4 s f ≡ f (slice_index d 3) (slice_index d 2) (slice_index d 1) (slice_index d 0) (drop 4 d)
unfolding takes4
at_takes4_deep s [] e f h = absurd (omega arith)
at_takes4_deep s (a ∷ []) e f h = absurd (omega arith)
at_takes4_deep s (a ∷ b ∷ []) e f h = absurd (omega arith)
at_takes4_deep s (a ∷ b ∷ c ∷ []) e f h = absurd (omega arith)
at_takes4_deep s (a ∷ b ∷ c ∷ e4 ∷ d) e f h = rw e refl

pub takes4_deep : (s : Whole) (f : (ℕ → ℕ → ℕ → ℕ → List ℕ → After)) → 4 ≤ length s.values → takes4 s f ≡ f (slice_index s.values 3) (slice_index s.values 2) (slice_index s.values 1) (slice_index s.values 0) (drop 4 s.values)
takes4_deep s f h = at_takes4_deep s s.values refl f h

at_takes6_none : (s : Whole) (d : List ℕ) → s.values ≡ d → (f : (ℕ → ℕ → ℕ → ℕ → ℕ → ℕ → List ℕ → After)) → length d < 6 → takes6 s f ≡ fault s 1
unfolding takes6
at_takes6_none s [] e f h = rw e refl
at_takes6_none s (a ∷ []) e f h = rw e refl
at_takes6_none s (a ∷ b ∷ []) e f h = rw e refl
at_takes6_none s (a ∷ b ∷ c ∷ []) e f h = rw e refl
at_takes6_none s (a ∷ b ∷ c ∷ e4 ∷ []) e f h = rw e refl
at_takes6_none s (a ∷ b ∷ c ∷ e4 ∷ e5 ∷ []) e f h = rw e refl
at_takes6_none s (a ∷ b ∷ c ∷ e4 ∷ e5 ∷ e6 ∷ d) e f h = absurd (omega arith)

pub takes6_none : (s : Whole) (f : (ℕ → ℕ → ℕ → ℕ → ℕ → ℕ → List ℕ → After)) → length s.values < 6 → takes6 s f ≡ fault s 1
takes6_none s f h = at_takes6_none s s.values refl f h

at_takes6_deep : (s : Whole) (d : List ℕ) → s.values ≡ d → (f : (ℕ → ℕ → ℕ → ℕ → ℕ → ℕ → List ℕ → After)) → 6 ≤ length d → takes6 s f ≡ f (slice_index d 5) (slice_index d 4) (slice_index d 3) (slice_index d 2) (slice_index d 1) (slice_index d 0) (drop 6 d)
unfolding takes6
at_takes6_deep s [] e f h = absurd (omega arith)
at_takes6_deep s (a ∷ []) e f h = absurd (omega arith)
at_takes6_deep s (a ∷ b ∷ []) e f h = absurd (omega arith)
at_takes6_deep s (a ∷ b ∷ c ∷ []) e f h = absurd (omega arith)
at_takes6_deep s (a ∷ b ∷ c ∷ e4 ∷ []) e f h = absurd (omega arith)
at_takes6_deep s (a ∷ b ∷ c ∷ e4 ∷ e5 ∷ []) e f h = absurd (omega arith)
at_takes6_deep s (a ∷ b ∷ c ∷ e4 ∷ e5 ∷ e6 ∷ d) e f h = rw e refl

pub takes6_deep : (s : Whole) (f : (ℕ → ℕ → ℕ → ℕ → ℕ → ℕ → List ℕ → After)) → 6 ≤ length s.values → takes6 s f ≡ f (slice_index s.values 5) (slice_index s.values 4) (slice_index s.values 3) (slice_index s.values 2) (slice_index s.values 1) (slice_index s.values 0) (drop 6 s.values)
takes6_deep s f h = at_takes6_deep s s.values refl f h

at_takes_r1_none : (s : Whole) (d : List ℕ) → s.returns ≡ d → (f : (ℕ → List ℕ → After)) → length d < 1 → takes_r1 s f ≡ fault s 3
unfolding takes_r1
at_takes_r1_none s [] e f h = rw e refl
at_takes_r1_none s (a ∷ d) e f h = absurd (omega arith)

pub takes_r1_none : (s : Whole) (f : (ℕ → List ℕ → After)) → length s.returns < 1 → takes_r1 s f ≡ fault s 3
takes_r1_none s f h = at_takes_r1_none s s.returns refl f h

at_takes_r1_deep : (s : Whole) (d : List ℕ) → s.returns ≡ d → (f : (ℕ → List ℕ → After)) → 1 ≤ length d → takes_r1 s f ≡ f (slice_index d 0) (drop 1 d)
unfolding takes_r1
at_takes_r1_deep s [] e f h = absurd (omega arith)
at_takes_r1_deep s (a ∷ d) e f h = rw e refl

pub takes_r1_deep : (s : Whole) (f : (ℕ → List ℕ → After)) → 1 ≤ length s.returns → takes_r1 s f ≡ f (slice_index s.returns 0) (drop 1 s.returns)
takes_r1_deep s f h = at_takes_r1_deep s s.returns refl f h

at_takes_r3_none : (s : Whole) (d : List ℕ) → s.returns ≡ d → (f : (ℕ → ℕ → ℕ → List ℕ → After)) → length d < 3 → takes_r3 s f ≡ fault s 3
unfolding takes_r3
at_takes_r3_none s [] e f h = rw e refl
at_takes_r3_none s (a ∷ []) e f h = rw e refl
at_takes_r3_none s (a ∷ b ∷ []) e f h = rw e refl
at_takes_r3_none s (a ∷ b ∷ c ∷ d) e f h = absurd (omega arith)

pub takes_r3_none : (s : Whole) (f : (ℕ → ℕ → ℕ → List ℕ → After)) → length s.returns < 3 → takes_r3 s f ≡ fault s 3
takes_r3_none s f h = at_takes_r3_none s s.returns refl f h

at_takes_r3_deep : (s : Whole) (d : List ℕ) → s.returns ≡ d → (f : (ℕ → ℕ → ℕ → List ℕ → After)) → 3 ≤ length d → takes_r3 s f ≡ f (slice_index d 2) (slice_index d 1) (slice_index d 0) (drop 3 d)
unfolding takes_r3
at_takes_r3_deep s [] e f h = absurd (omega arith)
at_takes_r3_deep s (a ∷ []) e f h = absurd (omega arith)
at_takes_r3_deep s (a ∷ b ∷ []) e f h = absurd (omega arith)
at_takes_r3_deep s (a ∷ b ∷ c ∷ d) e f h = rw e refl

pub takes_r3_deep : (s : Whole) (f : (ℕ → ℕ → ℕ → List ℕ → After)) → 3 ≤ length s.returns → takes_r3 s f ≡ f (slice_index s.returns 2) (slice_index s.returns 1) (slice_index s.returns 0) (drop 3 s.returns)
takes_r3_deep s f h = at_takes_r3_deep s s.returns refl f h

at_takes_r4_none : (s : Whole) (d : List ℕ) → s.returns ≡ d → (f : (ℕ → ℕ → ℕ → ℕ → List ℕ → After)) → length d < 4 → takes_r4 s f ≡ fault s 3
unfolding takes_r4
at_takes_r4_none s [] e f h = rw e refl
at_takes_r4_none s (a ∷ []) e f h = rw e refl
at_takes_r4_none s (a ∷ b ∷ []) e f h = rw e refl
at_takes_r4_none s (a ∷ b ∷ c ∷ []) e f h = rw e refl
at_takes_r4_none s (a ∷ b ∷ c ∷ e4 ∷ d) e f h = absurd (omega arith)

pub takes_r4_none : (s : Whole) (f : (ℕ → ℕ → ℕ → ℕ → List ℕ → After)) → length s.returns < 4 → takes_r4 s f ≡ fault s 3
takes_r4_none s f h = at_takes_r4_none s s.returns refl f h

at_takes_r4_deep : (s : Whole) (d : List ℕ) → s.returns ≡ d → (f : (ℕ → ℕ → ℕ → ℕ → List ℕ → After)) → 4 ≤ length d → takes_r4 s f ≡ f (slice_index d 3) (slice_index d 2) (slice_index d 1) (slice_index d 0) (drop 4 d)
unfolding takes_r4
at_takes_r4_deep s [] e f h = absurd (omega arith)
at_takes_r4_deep s (a ∷ []) e f h = absurd (omega arith)
at_takes_r4_deep s (a ∷ b ∷ []) e f h = absurd (omega arith)
at_takes_r4_deep s (a ∷ b ∷ c ∷ []) e f h = absurd (omega arith)
at_takes_r4_deep s (a ∷ b ∷ c ∷ e4 ∷ d) e f h = rw e refl

pub takes_r4_deep : (s : Whole) (f : (ℕ → ℕ → ℕ → ℕ → List ℕ → After)) → 4 ≤ length s.returns → takes_r4 s f ≡ f (slice_index s.returns 3) (slice_index s.returns 2) (slice_index s.returns 1) (slice_index s.returns 0) (drop 4 s.returns)
takes_r4_deep s f h = at_takes_r4_deep s s.returns refl f h

pub ruleset takes = (takes1_none, takes1_deep, takes2_none, takes2_deep, takes3_none, takes3_deep, takes4_none, takes4_deep, takes6_none, takes6_deep, takes_r1_none, takes_r1_deep, takes_r3_none, takes_r3_deep, takes_r4_none, takes_r4_deep)
