-- What loading answers, by where its rounds stop.
use Rattle.std.proofs.Common.{◌≡◌, ◌≢◌, ℕ, List, Option, Some, false, true, inr, refl, ap, sym, ◌∙◌, ◌==◌, Bool}
use Rattle.std.specs.Prelude.{◌+◌, ◌-◌, IfOk, IsFalse, Result, Ok, Err, if◌then◌else◌}
use Rattle.block_buffers.specs.DeviceCalls.{DeviceCall}
use Rattle.block_buffers.specs.Disks.{Disk}
use Rattle.image_loader.specs.Files.{Contents}
use Rattle.machine.specs.State.{State}
use Rattle.metacompiler.specs.Rounds.{Stop, Ended, Out}
use Rattle.metacompiler.specs.Rounds as rounds
use Rattle.metacompiler.specs.Loaded.{LoadFault, NotFound, ChainTooLong, Fault, Halted, Asked, Limit, Unfinished, BadSize, OutOfMemory, refused, restored, ended, fault_of, by_out, IsSaved, IsLoaded}
use Rattle.metacompiler.specs.Making.{StopsAt}
use Rattle.metacompiler.specs.Moved.{Stage, stage, is_stopped, AreRead, HasStopped}
use Rattle.metacompiler.specs.Rounds.{is_end}
use Rattle.machine.specs.Entering.{can_save, saved}
use Rattle.memory.specs.Bytes.{cell}
use Rattle.memory.specs.declared.system.TheConstants.{STATE}
use Rattle.machine_parts.specs.Whole.{Whole}

-- a refusal
refusal : (from : Disk) (c : LoadFault) (a : Result Contents LoadFault) (d : Disk) (disk : Option Disk) → a ≡ Err c → disk ≡ Some d → IsLoaded from (record { answer = a; disk = d }) (Err c) disk
refusal from OutOfMemory a d disk e q = inr q
refusal from NotFound a d disk e q = (sym e, q)
refusal from ChainTooLong a d disk e q = (sym e, q)
refusal from (Fault f) a d disk e q = (sym e, q)
refusal from Halted a d disk e q = (sym e, q)
refusal from Asked a d disk e q = (sym e, q)
refusal from Limit a d disk e q = (sym e, q)
refusal from Unfinished a d disk e q = (sym e, q)
refusal from BadSize a d disk e q = (sym e, q)

pub refused_loaded : (c : LoadFault) (d : Disk) (disk : Option Disk) → disk ≡ Some d → IsLoaded d (refused c d) (Err c) disk
refused_loaded c d disk q = refusal d c (Err c) d disk refl q

-- rounds that stop before the end
stopped_answer : (entry : ℕ) (before : List ℕ) (o : Out) (y : Stop) → o.stop ≡ y → y ≢ Ended → (by_out entry before o).answer ≡ Err (fault_of y)
stopped_answer entry before o Ended e n = absurd (n refl)
stopped_answer entry before o rounds.Limit e n = rw e refl
stopped_answer entry before o (rounds.Fault f) e n = rw e refl
stopped_answer entry before o rounds.Halted e n = rw e refl
stopped_answer entry before o rounds.Asked e n = rw e refl

pub stopped_loaded : (from : Disk) (entry : ℕ) (before : List ℕ) (o : Out) (new : State) (disk : Option Disk) (left : ℕ) (y : Stop) → StopsAt o new disk left y → y ≢ Ended → IsLoaded from (by_out entry before o) (Err (fault_of y)) disk
stopped_loaded from entry before o new disk left y s n =
    let stop : o.stop ≡ y = ap (λ (x : Out). x.stop) s.stop_is in
    let told : o.disk ≡ s.told = ap (λ (x : Out). x.disk) s.stop_is in
    refusal from (fault_of y) (by_out entry before o).answer o.disk disk (stopped_answer entry before o y stop n) (s.disk_is ∙ ap (λ d. Some d) (sym told))

-- rounds that end, and what is saved then
answer_loaded : (from : Disk) (r a : Result Contents LoadFault) (d : Disk) (disk : Option Disk) → disk ≡ Some d → IsSaved a r → IsLoaded from (record { answer = a; disk = d }) r disk
answer_loaded from (Ok image) a d disk q e = (e, q)
answer_loaded from (Err OutOfMemory) a d disk q e = inr q
answer_loaded from (Err NotFound) a d disk q e = (e, q)
answer_loaded from (Err ChainTooLong) a d disk q e = (e, q)
answer_loaded from (Err (Fault f)) a d disk q e = (e, q)
answer_loaded from (Err Halted) a d disk q e = (e, q)
answer_loaded from (Err Asked) a d disk q e = (e, q)
answer_loaded from (Err Limit) a d disk q e = (e, q)
answer_loaded from (Err Unfinished) a d disk q e = (e, q)
answer_loaded from (Err BadSize) a d disk q e = (e, q)

pub saved_loaded : (from : Disk) (entry : ℕ) (before : List ℕ) (o : Out) (new : State) (disk : Option Disk) (left : ℕ) (r : Result Contents LoadFault) → StopsAt o new disk left Ended → IsSaved (ended entry (restored before new.parts)) r → IsLoaded from (by_out entry before o) r disk
saved_loaded from entry before o new disk left r s x =
    rw (s.stop_is) (answer_loaded from r (ended entry (restored before new.parts)) s.told disk s.disk_is x)

-- where the machine is, when rounds stop before the end of a screen
pub stopped_there : (word from to : ℕ) (p : Stage) (machine : State) (calls : List DeviceCall) (left : ℕ) (y : Stop)
    → AreRead word (to + 1 - from) from p (stage machine calls left) y → IsFalse (is_end y) → HasStopped word from to p machine calls (Err (fault_of y))
unfolding HasStopped
stopped_there word from to p machine calls left y read goes = λ _. (left, y, read, goes, refl)

-- what is saved, or why it isn't, is no such stop
saved_goes : (entry : ℕ) (s : Whole) (r : Result Contents LoadFault) → IsSaved (ended entry s) r → is_stopped r ≡ true → ⊥
saved_goes entry s r is q = by_answer (cell s.memory STATE == 0) (can_save s) r is q where
  by_answer : (ends fits : Bool) (r : Result Contents LoadFault) → IsSaved (if ends then (if fits then Ok (saved s entry) else Err BadSize) else Err Unfinished) r → is_stopped r ≡ true → ⊥
  by_answer ends fits (Ok image) h t = cc
  by_answer ends fits (Err OutOfMemory) h t = cc
  by_answer ends fits (Err NotFound) h t = cc
  by_answer ends fits (Err ChainTooLong) h t = cc
  by_answer ends fits (Err Unfinished) h t = cc
  by_answer ends fits (Err BadSize) h t = cc
  by_answer true true (Err (Fault f)) h t = cc
  by_answer true false (Err (Fault f)) h t = cc
  by_answer false fits (Err (Fault f)) h t = cc
  by_answer true true (Err Halted) h t = cc
  by_answer true false (Err Halted) h t = cc
  by_answer false fits (Err Halted) h t = cc
  by_answer true true (Err Asked) h t = cc
  by_answer true false (Err Asked) h t = cc
  by_answer false fits (Err Asked) h t = cc
  by_answer true true (Err Limit) h t = cc
  by_answer true false (Err Limit) h t = cc
  by_answer false fits (Err Limit) h t = cc

pub saved_there : (word from to entry : ℕ) (s : Whole) (p : Stage) (machine : State) (calls : List DeviceCall) (r : Result Contents LoadFault)
    → IsSaved (ended entry s) r → HasStopped word from to p machine calls r
unfolding HasStopped
saved_there word from to entry s p machine calls r is = λ q. absurd (saved_goes entry s r is q)

pub saved_stays : (word : Result ℕ LoadFault) (from to entry : ℕ) (s : Whole) (p : Stage) (machine : State) (calls : List DeviceCall) (r : Result Contents LoadFault)
    → IsSaved (ended entry s) r → IfOk word (λ w. HasStopped w from to p machine calls r)
saved_stays (Ok w) from to entry s p machine calls r is = saved_there w from to entry s p machine calls r is
saved_stays (Err c) from to entry s p machine calls r is = tt
