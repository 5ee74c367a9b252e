-- A run in slices is one run.
use Rattle.std.proofs.Common.{◌≡◌, ℕ, zero, suc, ◌+◌, ◌-◌, ◌≤◌, ◌<◌, Option, None, Some, refl, sym, ap, ◌∙◌, arith}
use Rattle.machine_parts.specs.declared.parts.Request.{Request}
use Rattle.machine.specs.declared.act.Cause.{Cause}
use Rattle.machine.specs.Answer.{asked_by}
use Rattle.inner_interpreter.specs.declared.stop.Stop.{Stop}
use Rattle.inner_interpreter.specs.declared.stop.Stop.TheVariants.{Limit}
use Rattle.inner_interpreter.specs.Runs.{World, round, round_by, rounds, stop_by, stops, next_by}
use Rattle.inner_interpreter.specs.Slices.{with_left}

-- k ticks more are left
abbrev pub more : ℕ → World → World
more k w = with_left (w.left + k) w

by_request : (k : ℕ) (v : World) (o : Option Request) → 0 < v.left → round_by (more k v) o ≡ more k (round_by v o)
by_request k v o some = grind arith

round_more : (k : ℕ) (v : World) → 0 < v.left → round (more k v) ≡ more k (round v)
unfolding round
round_more k v some = by_request k v (asked_by v.state.wait) some

goes_more : (k : ℕ) (c : Option Cause) (left : ℕ) → stop_by c left ≡ None → stop_by c (left + k) ≡ None
goes_more k c left q = grind arith

some_left : (c : Option Cause) (left : ℕ) → stop_by c left ≡ None → 0 < left
some_left c left q = grind arith

-- with k ticks more some rounds lead to the same, with k ticks more
abbrev Leads : ℕ → World → World → Type 0
Leads k w v = (m : ℕ) × (rounds m (more k w) ≡ more k v)

next_leads : (k : ℕ) (w v : World) (o : Option Stop) → stops v ≡ o → Leads k w v → Leads k w (next_by v o)
unfolding rounds
next_leads k w v (Some s) q h = h
next_leads k w v None q h =
    let goes : stops (more k v) ≡ None = goes_more k v.state.halt v.left q in
    (suc h.0, ap (λ u. next_by u (stops u)) h.1 ∙ ap (next_by (more k v)) goes ∙ round_more k v (some_left v.state.halt v.left q))

pub leads : (n k : ℕ) (w : World) → Leads k w (rounds n w)
unfolding rounds
leads zero k w = (0, refl)
leads (suc n) k w = next_leads k w (rounds n w) (stops (rounds n w)) refl (leads n k w)

limit_left : (c : Option Cause) (left : ℕ) → stop_by c left ≡ Some Limit → left ≡ 0
limit_left c left q = grind arith

pub slices_law : (w : World) (a n : ℕ) → a ≤ w.left → stops (rounds n (with_left a w)) ≡ Some Limit
    → (m : ℕ) × (rounds m w ≡ with_left (w.left - a) (rounds n (with_left a w)))
slices_law w a n most q =
    let h = leads n (w.left - a) (with_left a w) in
    let all : a + (w.left - a) ≡ w.left = omega (arith, most) in
    let start : more (w.left - a) (with_left a w) ≡ w = ap (λ l. with_left l w) all in
    let none : (rounds n (with_left a w)).left ≡ 0 = limit_left (rounds n (with_left a w)).state.halt (rounds n (with_left a w)).left q in
    let sum : (rounds n (with_left a w)).left + (w.left - a) ≡ w.left - a = omega (arith, none) in
    (h.0, ap (rounds h.0) (sym start) ∙ h.1 ∙ ap (λ l. with_left l (rounds n (with_left a w))) sum)

-- a stop stays if more ticks are left, but one for want of ticks
stop_more : (d : ℕ) (c : Option Cause) (left : ℕ) (stop : Stop) → stop_by c left ≡ Some stop → (stop ≡ Limit → d ≡ 0) → stop_by c (left + d) ≡ Some stop
stop_more d c left stop q z = grind arith

-- a slice of a run, as rounds of the whole
pub last_slice : (u : World) (a k : ℕ) (stop : Stop) → a ≤ u.left → stops (rounds k (with_left a u)) ≡ Some stop → (stop ≡ Limit → u.left - a ≡ 0)
    → (m : ℕ) × (stops (rounds m u) ≡ Some stop) × (rounds m u ≡ more (u.left - a) (rounds k (with_left a u)))
last_slice u a k stop most q z =
    let h = leads k (u.left - a) (with_left a u) in
    let all : a + (u.left - a) ≡ u.left = omega (arith, most) in
    let start : more (u.left - a) (with_left a u) ≡ u = ap (λ l. with_left l u) all in
    let same : rounds h.0 u ≡ more (u.left - a) (rounds k (with_left a u)) = ap (rounds h.0) (sym start) ∙ h.1 in
    (h.0, ap stops same ∙ stop_more (u.left - a) (rounds k (with_left a u)).state.halt (rounds k (with_left a u)).left stop q z, same)
