-- A round of the machine and its device.
use Rattle.std.proofs.Common.{◌≡◌, ◌≢◌, ℕ, ◌+◌, zero, suc, ◌<◌, ◌==◌, [], List, nat_lt, Option, Some, None, Bool, true, false, refl, ap, sym, ◌∙◌, if◌then◌else◌, arith}
use Rattle.block_buffers.specs.Disks.{Disk}
use Rattle.memory.specs.Bytes.{cell}
use Rattle.memory.specs.declared.system.TheConstants.{FAULT}
use Rattle.machine_parts.specs.Whole.{Whole}
use Rattle.machine_parts.specs.Row.{After}
use Rattle.machine_parts.specs.declared.parts.Request.{Request}
use Rattle.machine_parts.specs.declared.parts.Request.TheVariants as request
use Rattle.machine.specs.declared.act.Act.{Act}
use Rattle.machine.specs.declared.act.Event.{Event}
use Rattle.machine.specs.declared.act.Event.TheVariants as event
use Rattle.machine.specs.declared.act.Shown.{Shown}
use Rattle.machine.specs.State.{State}
use Rattle.machine.specs.Tick.{Runs, taken, executed, by_fault, concluded, ticked}
use Rattle.machine.specs.Answer.{Reply, asked_by, answered, answer_of, key_answered, line_answered, read_answered, write_answered}
use Rattle.inner_interpreter.specs.Served.{Serves}
use Rattle.inner_interpreter.specs.Runs.{served}
use Rattle.metacompiler.specs.Rounds.{is_end, Stop, Ended, Limit, Asked, Out, out, stop_by, went, by_answer, by_device, by_request, by_tick, rounds, entered, then_screens}
use Rattle.metacompiler.specs.Making.{continued, GoesOn, IsSettled, IsRound, StopsAt, IsSoFar, AreSoFar}

-- what an event says of the state after a move
abbrev pub Tells : State → Event → Type 0
Tells s event.Went = Runs s
Tells s (event.Ask r) = (s.halt ≡ None) × (asked_by s.wait ≡ Some r)
Tells s e = Unit {0}

abbrev pub Told : State × Act → Type 0
Told t = Tells t.0 t.1.event

either : (b : Bool) (x y : State × Act) → Told x → Told y → Told (if b then x else y)
either b x y p q = grind arith

fault_told : (s : Whole) (shown : Shown) (f : ℕ) → Told (by_fault s shown f)
unfolding by_fault
fault_told s shown f = either (cell s.memory FAULT == 0) _ _ tt tt

concluded_told : (w : ℕ) (x : After) → Told (concluded w x)
unfolding concluded
concluded_told w x = grind (arith, fault_told)

pub ticked_told : (s : Whole) → Told (ticked s)
unfolding ticked
ticked_told s = concluded_told (taken s).0 (executed (taken s).0 (taken s).1)

answered_told : (s : Whole) (p : Request × ℕ) (reply : Reply) → Told (answered s p reply)
unfolding answered key_answered line_answered read_answered write_answered
answered_told s p reply = grind (arith, either, nat_lt, fault_told)

pub answer_told : (s : State) (r : Request) (reply : Reply) → asked_by s.wait ≡ Some r → Told (answer_of s reply)
unfolding answer_of
answer_told s r reply e = grind (arith, answered_told)

-- nothing is asked
abbrev pub NoAsk : Event → Type 0
NoAsk (event.Ask r) = ⊥
NoAsk e = Unit {0}

pub stop_goes : (s : State) (e : Event) → Tells s e → GoesOn s (stop_by s e)
stop_goes s e h = grind arith

went_is : (left : ℕ) (go : Whole → Disk → Out) (s : State) (d : Disk) → went left go s.parts d ≡ continued left go s d (stop_by s event.Went)
went_is left go s d = grind arith

answer_is : (left : ℕ) (go : Whole → Disk → Out) (s : State) (d : Disk) (e : Event) → by_answer left go s d e ≡ continued left go s d (stop_by s e)
answer_is left go s d e = grind arith

tick_is : (left : ℕ) (go : Whole → Disk → Out) (s : State) (d : Disk) (e : Event) → NoAsk e → by_tick left go s d e ≡ continued left go s d (stop_by s e)
tick_is left go s d e h = grind arith

-- an answer of the device
settled : (left : ℕ) (s new : State) (d : Disk) (r : Request) (unread : Option (List ℕ)) (disk : Option Disk) (act : Act)
    → asked_by s.wait ≡ Some r → ((go : Whole → Disk → Out) → by_request left go s d r ≡ by_device left go s d r)
    → Serves s r [] d new unread disk act → IsSettled left s d r new disk (stop_by new act.event)
settled left s new d r unread disk act asks on h =
    let a = served s r [] d in
    let t = answer_of s a.reply in
    let c : IsSettled left s d r t.0 disk (stop_by t.0 t.1.event) = record {
      told = a.disk;
      disk_is = h.disk_is;
      step_is = λ go. on go ∙ answer_is left go t.0 a.disk t.1.event;
      goes = stop_goes t.0 t.1.event (answer_told s r a.reply asks);
    } in
    rw (ap (λ v. v.0) h.answers, ap (λ v. v.1) h.answers) c

pub read_settled : (left : ℕ) (s new : State) (d : Disk) (u : ℕ) (unread : Option (List ℕ)) (disk : Option Disk) (act : Act)
    → asked_by s.wait ≡ Some (request.Read u) → 0 < left → Serves s (request.Read u) [] d new unread disk act → IsSettled left s d (request.Read u) new disk (stop_by new act.event)
read_settled zero s new d u unread disk act asks some h = absurd (omega (arith, some))
read_settled (suc n) s new d u unread disk act asks some h = settled (suc n) s new d (request.Read u) unread disk act asks (λ go. let e : (suc n == 0) ≡ false = grind arith in ap (λ b. if b then out s.parts d (suc n) Limit else by_device (suc n) go s d (request.Read u)) e) h

pub write_settled : (left : ℕ) (s new : State) (d : Disk) (u : ℕ) (unread : Option (List ℕ)) (disk : Option Disk) (act : Act)
    → asked_by s.wait ≡ Some (request.Write u) → 0 < left → Serves s (request.Write u) [] d new unread disk act → IsSettled left s d (request.Write u) new disk (stop_by new act.event)
write_settled zero s new d u unread disk act asks some h = absurd (omega (arith, some))
write_settled (suc n) s new d u unread disk act asks some h = settled (suc n) s new d (request.Write u) unread disk act asks (λ go. let e : (suc n == 0) ≡ false = grind arith in ap (λ b. if b then out s.parts d (suc n) Limit else by_device (suc n) go s d (request.Write u)) e) h

-- if nothing is answered
abbrev pub stop_of : (left : ℕ) → Request → Option Stop
stop_of left (request.Read u) = if left == 0 then Some Limit else None
stop_of left (request.Write u) = if left == 0 then Some Limit else None
stop_of left r = Some Asked

pub unsettled : (left : ℕ) (s : State) (d : Disk) (r : Request) (disk : Option Disk) (y : Stop) → stop_of left r ≡ Some y → disk ≡ Some d → GoesOn s (Some y) → IsSettled left s d r s disk (Some y)
unsettled left s d r disk y e q h = grind arith

-- a tick that asked
pub asked_waits : (s : Whole) (new : State) (act : Act) (r : Request) → (new, act) ≡ ticked s → act.event ≡ event.Ask r → (new.halt ≡ None) × (asked_by new.wait ≡ Some r)
asked_waits s new act r t e = grind (arith, ticked_told)

pub round_asked : (left : ℕ) (s : Whole) (mid new : State) (act : Act) (d : Disk) (r : Request) (disk : Option Disk) (y : Option Stop)
    → (mid, act) ≡ ticked s → act.event ≡ event.Ask r → IsSettled left mid d r new disk y → IsRound left s d new disk y
round_asked left s mid new act d r disk y t e h = search arith

-- a tick that didn't ask
pub round_made : (left : ℕ) (s : Whole) (new : State) (act : Act) (d : Disk) (disk : Option Disk) (y : Option Stop)
    → (new, act) ≡ ticked s → NoAsk act.event → disk ≡ Some d → y ≡ stop_by new act.event → IsRound left s d new disk y
round_made left s new act d disk y t silent q e = grind (arith, tick_is, stop_goes, ticked_told)

-- the rounds so far
pub none_so_far : (s : State) (d : Disk) (disk : Option Disk) (left : ℕ) → Runs s → disk ≡ Some d → IsSoFar (rounds left s.parts d) s disk left
none_so_far s d disk left h q = record { told = d; disk_is = q; same = refl; goes = h }

pub more_so_far : (o : Out) (s new : State) (disk disk' : Option Disk) (n : ℕ) → IsSoFar o s disk (suc n)
    → ((d : Disk) → disk ≡ Some d → Runs s → IsRound n s.parts d new disk' None) → IsSoFar o new disk' n
unfolding rounds
more_so_far o s new disk disk' n h r =
    let c = r h.told h.disk_is h.goes in
    record { told = c.told; disk_is = c.disk_is; same = sym (c.step_is (λ u e. rounds n u e)) ∙ h.same; goes = c.goes }

pub stops_so_far : (o : Out) (s new : State) (disk disk' : Option Disk) (n : ℕ) (y : Stop) → IsSoFar o s disk (suc n)
    → ((d : Disk) → disk ≡ Some d → Runs s → IsRound n s.parts d new disk' (Some y)) → StopsAt o new disk' n y
unfolding rounds
stops_so_far o s new disk disk' n y h r =
    let c = r h.told h.disk_is h.goes in
    record { told = c.told; disk_is = c.disk_is; stop_is = sym h.same ∙ c.step_is (λ u e. rounds n u e); goes = c.goes }

pub all_so_far : (o : Out) (s : State) (disk : Option Disk) → IsSoFar o s disk 0 → StopsAt o s disk 0 Limit
unfolding rounds
all_so_far o s disk h = record { told = h.told; disk_is = h.disk_is; stop_is = sym h.same; goes = tt }

-- the screens so far, and one more
pub one_read : (w more screen : ℕ) (o : Out) (s new : State) (disk disk' : Option Disk) (left left' : ℕ) → AreSoFar w (suc more) screen o s disk left
    → ((d : Disk) → disk ≡ Some d → Runs s → StopsAt (rounds left (entered s.parts w screen) d) new disk' left' Ended) → AreSoFar w more (screen + 1) o new disk' left'
unfolding then_screens
one_read w more screen o s new disk disk' left left' h r = grind arith

stopped_stays : (w more screen : ℕ) (s : Whole) (d : Disk) (left : ℕ) (y : Stop) → y ≢ Ended → then_screens w more screen (out s d left y) ≡ out s d left y
unfolding then_screens
stopped_stays w more screen s d left y n = grind arith

pub stops_reading : (w more screen : ℕ) (o : Out) (s new : State) (disk disk' : Option Disk) (left left' : ℕ) (y : Stop) → AreSoFar w (suc more) screen o s disk left
    → ((d : Disk) → disk ≡ Some d → Runs s → StopsAt (rounds left (entered s.parts w screen) d) new disk' left' y) → y ≢ Ended → StopsAt o new disk' left' y
unfolding then_screens
stops_reading w more screen o s new disk disk' left left' y h r n = search (arith, stopped_stays)

pub all_read : (w screen : ℕ) (o : Out) (s : State) (disk : Option Disk) (left : ℕ) → AreSoFar w 0 screen o s disk left → StopsAt o s disk left Ended
unfolding then_screens
all_read w screen o s disk left h = record { told = h.told; disk_is = h.disk_is; stop_is = sym h.same; goes = h.goes }

pub at_end : (y : Stop) → is_end y ≡ true → y ≡ Ended
at_end y e = grind arith

pub before_end : (y : Stop) → is_end y ≡ false → y ≢ Ended
before_end y e q = let w : is_end y ≡ true = ap is_end q in let z : true ≡ false = sym w ∙ e in cc
