-- Rounds and screens by the moves that the machine makes, whatever its device is.
use Rattle.std.proofs.Common.{◌≡◌, ℕ, suc, ◌+◌, ◌<◌, ◌∷◌, [], List, Option, Some, None, false, IsFalse, inl, inr, refl, ap, sym, subst, ◌∙◌, arith}
use Rattle.std.specs.Prelude.{Result, Err, IfOk, IfErr}
use Rattle.image_loader.specs.Files.{Contents}
use Rattle.machine_parts.specs.declared.parts.Request.{Request}
use Rattle.machine_parts.specs.declared.parts.Request.TheVariants as request
use Rattle.machine.specs.declared.act.Act.{Act}
use Rattle.machine.specs.declared.act.Event.{Event}
use Rattle.machine.specs.declared.act.Event.TheVariants as event
use Rattle.machine.specs.State.{State}
use Rattle.machine.specs.Tick.{Runs, ticked, IsTicked}
use Rattle.machine.specs.Answer.{answer_of, asked_by}
use Rattle.block_buffers.specs.DeviceCalls.{DeviceCall}
use Rattle.inner_interpreter.specs.Moves.{Turn, Tick, Answer, Accepts, is_entry}
use Rattle.inner_interpreter.specs.Served.{HasActed}
use Rattle.metacompiler.specs.Rounds.{Stop, Ended, Limit, Asked, is_end, stop_by}
use Rattle.metacompiler.specs.Loaded.{LoadFault, OutOfMemory, IsSaved}
use Rattle.metacompiler.specs.Moved.{Stage, stage, behind, stop_by_tick, stop_behind, AreRounds, at_screen, AreRead, HasLoaded}
use Rattle.metacompiler.specs.Making.{GoesOn, LeadsTo, IsLed, IsSettledBy, IsReadOn}
use Rattle.metacompiler.proofs.Making.{NoAsk, Tells, ticked_told, answer_told, stop_goes}

-- one move, and what comes after it
one_move : (p : Stage) (t : Turn) (o : Option Stop) → 0 < p.left → is_entry t ≡ false → Accepts p.machine t → stop_behind p.machine t ≡ o → LeadsTo p (behind p t) o
unfolding AreRounds
one_move p t None some own ok e = λ r y h. record { moves = t ∷ h.moves; rounds = (some, own, ok, rw e h.rounds) }
one_move p t (Some z) some own ok e = record { moves = t ∷ []; rounds = (some, own, ok, rw e (refl, refl, refl)) }

led_then : (p m q : Stage) (y : Option Stop) → LeadsTo p m None → LeadsTo m q y → LeadsTo p q y
led_then p m q y f g = grind arith

-- if no tick is left
pub none_left : (p : Stage) → p.left ≡ 0 → IsLed p p (Some Limit)
unfolding AreRounds
none_left p e = record { goes = tt; leads = record { moves = []; rounds = (e, refl, refl) } }

-- a tick
silent : (s : State) (e : Event) → NoAsk e → stop_by_tick s e ≡ stop_by s e
silent s e h = grind arith

tick_leads : (s new : State) (c : List DeviceCall) (n : ℕ) (act : Act) → IsTicked s new act → LeadsTo (stage s c (n + 1)) (stage new c n) (stop_by_tick new act.event)
tick_leads s new c n act t =
    let e : new ≡ (ticked s.parts).0 = ap (λ v. v.0) t.1 in
    let a : act ≡ (ticked s.parts).1 = ap (λ v. v.1) t.1 in
    let q : stage new c n ≡ behind (stage s c (n + 1)) Tick = ap (λ v. stage v c n) e ∙ ap (λ k. stage (ticked s.parts).0 c k) (omega arith) in
    let y : stop_by_tick new act.event ≡ stop_behind s Tick = ap (λ v. stop_by_tick v act.event) e ∙ ap (λ (v : Act). stop_by_tick (ticked s.parts).0 v.event) a in
    let base : LeadsTo (stage s c (n + 1)) (behind (stage s c (n + 1)) Tick) (stop_behind s Tick) = one_move (stage s c (n + 1)) Tick (stop_behind s Tick) (omega arith) refl t.0 refl in
    subst (λ v. LeadsTo (stage s c (n + 1)) v (stop_by_tick new act.event)) (sym q) (subst (λ o. LeadsTo (stage s c (n + 1)) (behind (stage s c (n + 1)) Tick) o) (sym y) base)

tick_tells : (s new : State) (act : Act) → IsTicked s new act → Tells new act.event
tick_tells s new act t = grind (arith, ticked_told)

pub tick_led : (s new : State) (c : List DeviceCall) (n : ℕ) (act : Act) (y : Option Stop) → IsTicked s new act → NoAsk act.event → y ≡ stop_by new act.event → IsLed (stage s c (n + 1)) (stage new c n) y
tick_led s new c n act y t none e =
    let goes : GoesOn new (stop_by new act.event) = stop_goes new act.event (tick_tells s new act t) in
    let leads : LeadsTo (stage s c (n + 1)) (stage new c n) (stop_by new act.event) = subst (λ o. LeadsTo (stage s c (n + 1)) (stage new c n) o) (silent new act.event none) (tick_leads s new c n act t) in
    subst (λ o. IsLed (stage s c (n + 1)) (stage new c n) o) (sym e) (record { goes = goes; leads = leads })

-- a tick that asked, and what was done after it
pub asked_led : (s mid new : State) (c c' : List DeviceCall) (n : ℕ) (act : Act) (r : Request) (y : Option Stop) → IsTicked s mid act → act.event ≡ event.Ask r → IsSettledBy r (stage mid c n) (stage new c' n) y → IsLed (stage s c (n + 1)) (stage new c' n) y
asked_led s mid new c c' n act r y t e h = by_request r (subst (λ v. LeadsTo (stage s c (n + 1)) (stage mid c n) (stop_by_tick mid v)) e (tick_leads s mid c n act t)) h where
  by_request : (r : Request) → LeadsTo (stage s c (n + 1)) (stage mid c n) (stop_by_tick mid (event.Ask r)) → IsSettledBy r (stage mid c n) (stage new c' n) y → IsLed (stage s c (n + 1)) (stage new c' n) y
  by_request (request.Read u) f h = record { goes = h.goes; leads = led_then (stage s c (n + 1)) (stage mid c n) (stage new c' n) y f h.leads }
  by_request (request.Write u) f h = record { goes = h.goes; leads = led_then (stage s c (n + 1)) (stage mid c n) (stage new c' n) y f h.leads }
  by_request request.Key f h = subst (λ o. IsLed (stage s c (n + 1)) (stage new c' n) o) (sym h.1) (record { goes = tt; leads = subst (λ v. LeadsTo (stage s c (n + 1)) v (Some Asked)) (sym h.0) f })
  by_request (request.Line k) f h = subst (λ o. IsLed (stage s c (n + 1)) (stage new c' n) o) (sym h.1) (record { goes = tt; leads = subst (λ v. LeadsTo (stage s c (n + 1)) v (Some Asked)) (sym h.0) f })

-- an answer
pub answer_led : (s new : State) (c c' : List DeviceCall) (reads reads' : List (Option ℕ)) (n : ℕ) (act : Act) (r : Request) → asked_by s.wait ≡ Some r → 0 < n → HasActed s new c c' reads reads' act → IsLed (stage s c n) (stage new c' n) (stop_by new act.event)
answer_led s new c c' reads reads' n act r asks some h =
    let t = answer_of s h.reply in
    let base : IsLed (stage s c n) (behind (stage s c n) (Answer h.reply)) (stop_by t.0 t.1.event) =
    record { goes = stop_goes t.0 t.1.event (answer_told s r h.reply asks); leads = one_move (stage s c n) (Answer h.reply) (stop_by t.0 t.1.event) some refl h.accepted refl } in
    rw (ap (λ v. v.0) h.acts, ap (λ v. v.1) h.acts, h.calls_are) base

-- rounds so far, and what comes after them
pub led_on : (p m q : Stage) (y : Option Stop) → IsLed p m None → (Runs m.machine → IsLed m q y) → IsLed p q y
led_on p m q y h f = let l = f h.goes in record { goes = l.goes; leads = led_then p m q y h.leads l.leads }

-- screens so far, and what comes after them
pub one_more : (word more screen : ℕ) (m r : Stage) (All : Stage → Stop → Type 0) → IsReadOn word (suc more) screen m All → (Runs m.machine → IsLed (at_screen word screen m) r (Some Ended)) → IsReadOn word more (screen + 1) r All
unfolding AreRead
one_more word more screen m r All h f = let l = f h.goes in record { goes = l.goes; on = λ q y a. h.on q y (inr (r, l.leads, a)) }

pub stops_here : (word more screen : ℕ) (m q : Stage) (y : Stop) (All : Stage → Stop → Type 0) → IsReadOn word (suc more) screen m All → (Runs m.machine → IsLed (at_screen word screen m) q (Some y)) → IsFalse (is_end y) → All q y
unfolding AreRead
stops_here word more screen m q y All h f e = h.on q y (inl (e, (f h.goes).leads))

pub no_more : (word screen : ℕ) (m : Stage) (All : Stage → Stop → Type 0) → IsReadOn word 0 screen m All → All m Ended
unfolding AreRead
no_more word screen m All h = h.on m Ended (refl, refl)

-- a refusal, if no screen is read
pub refused_saved : (o : Result ℕ LoadFault) (r : Result Contents LoadFault) (P : Type 0) → IfErr o (λ c. (r ≡ Err c) × P) → IfErr o (λ c. IsSaved (Err c) r × P)
refused_saved o r P h = grind arith

-- no memory for the machine
pub unloaded : (o : Result ℕ LoadFault) (P : Type 0) → P → IfErr o (λ c. IsSaved (Err c) (Err OutOfMemory) × P)
unloaded o P p = grind arith

pub not_read : (o : Result ℕ LoadFault) (image : Contents) (count from to ticks : ℕ) (calls : List DeviceCall) → IfOk o (λ word. HasLoaded word image count from to ticks calls calls (Err OutOfMemory))
not_read o image count from to ticks calls = grind arith
