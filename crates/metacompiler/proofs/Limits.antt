-- More ticks change nothing of rounds that stop before the limit.
use Rattle.std.proofs.Common.{◌≡◌, ℕ, zero, suc, ◌+◌, refl, arith, inl, inr, ◌⊎◌, [], if◌then◌else◌}
use Rattle.std.specs.Prelude.{◌==◌}
use Rattle.block_buffers.specs.Disks.{Disk}
use Rattle.machine_parts.specs.Whole.{Whole}
use Rattle.machine.specs.declared.act.Event.{Event}
use Rattle.machine.specs.State.{State}
use Rattle.machine.specs.Tick.{ticked}
use Rattle.metacompiler.specs.Rounds.{Stop, Ended, Limit, Out, out, by_tick, rounds, entered, by_stop, then_screens, screens}

-- the same, with k ticks more left
abbrev pub later : ℕ → Out → Out
later k o = record { parts = o.parts; disk = o.disk; left = o.left + k; stop = o.stop }

-- for want of ticks, and none is left; or the same with more of them
abbrev pub Lasts : (k : ℕ) → (less more : Out) → Type 0
Lasts k less more = ((less.stop ≡ Limit) × (less.left ≡ 0)) ⊎ (more ≡ later k less)

tick_lasts : (k n : ℕ) (go on : Whole → Disk → Out) (s : State) (d : Disk) (e : Event) → ((u : Whole) (e : Disk) → Lasts k (go u e) (on u e)) → Lasts k (by_tick n go s d e) (by_tick (n + k) on s d e)
tick_lasts k n go on s d e h = grind arith

pub rounds_last : (k n : ℕ) (s : Whole) (d : Disk) → Lasts k (rounds n s d) (rounds (n + k) s d)
unfolding rounds
rounds_last k zero s d = inl (refl, refl)
rounds_last k (suc n) s d =
    let e : suc n + k ≡ suc (n + k) = omega arith in
    let t = ticked s in
    rw e (tick_lasts k n (λ (u : Whole) (f : Disk). rounds n u f) (λ (u : Whole) (f : Disk). rounds (n + k) u f) t.0 d t.1.event (λ u f. rounds_last k n u f))

-- screens, one after another
stop_lasts : (k : ℕ) (go : ℕ → Whole → Disk → Out) (less more : Out) (y : Stop) → less.stop ≡ y → ((n : ℕ) (s : Whole) (d : Disk) → Lasts k (go n s d) (go (n + k) s d)) → Lasts k less more → Lasts k (by_stop go less y) (by_stop go more more.stop)
stop_lasts k go less more y e h y1 = grind arith

pub screens_last : (k w count b : ℕ) (less more : Out) → Lasts k less more → Lasts k (then_screens w count b less) (then_screens w count b more)
unfolding then_screens
screens_last k w zero b less more h = h
screens_last k w (suc count) b less more h =
    stop_lasts k (λ (n : ℕ) (s : Whole) (d : Disk). then_screens w count (b + 1) (rounds n (entered s w b) d)) less more less.stop refl
    (λ n s d. screens_last k w count (b + 1) (rounds n (entered s w b) d) (rounds (n + k) (entered s w b) d) (rounds_last k n (entered s w b) d)) h

pub all_last : (k w count b n : ℕ) (s : Whole) (d : Disk) → Lasts k (screens w count b n s d) (screens w count b (n + k) s d)
all_last k w count b n s d = screens_last k w count b (out s d n Ended) (out s d (n + k) Ended) (inr refl)

-- a stop for want of ticks
abbrev IsDone : Out → Type 0
IsDone o = o.stop ≡ Limit → o.left ≡ 0

tick_done : (n : ℕ) (go : Whole → Disk → Out) (s : State) (d : Disk) (e : Event) → ((u : Whole) (e : Disk) → IsDone (go u e)) → IsDone (by_tick n go s d e)
tick_done n go s d e h = grind arith

rounds_done : (n : ℕ) (s : Whole) (d : Disk) → IsDone (rounds n s d)
unfolding rounds
rounds_done zero s d = λ q. refl
rounds_done (suc n) s d = let t = ticked s in tick_done n (λ (u : Whole) (f : Disk). rounds n u f) t.0 d t.1.event (λ u f. rounds_done n u f)

stop_done : (go : ℕ → Whole → Disk → Out) (o : Out) (y : Stop) → o.stop ≡ y → ((n : ℕ) (s : Whole) (d : Disk) → IsDone (go n s d)) → IsDone o → IsDone (by_stop go o y)
stop_done go o y e h g = grind arith

screens_done : (w count b : ℕ) (o : Out) → IsDone o → IsDone (then_screens w count b o)
unfolding then_screens
screens_done w zero b o g = g
screens_done w (suc count) b o g =
    stop_done (λ (n : ℕ) (s : Whole) (d : Disk). then_screens w count (b + 1) (rounds n (entered s w b) d)) o o.stop refl
    (λ n s d. screens_done w count (b + 1) (rounds n (entered s w b) d) (rounds_done n (entered s w b) d)) g

pub limit_done : (w count screen n : ℕ) (s : Whole) (d : Disk) → (screens w count screen n s d).stop ≡ Limit → (screens w count screen n s d).left ≡ 0
limit_done w count screen n s d = screens_done w count screen (out s d n Ended) (λ q. cc)
