-- The written rounds report no failed reader to the machine.
use Rattle.std.proofs.Common.{rules, ◌≡◌, ◌≢◌, ℕ, zero, suc, ◌+◌, ◌==◌, List, Option, Some, None, Bool, true, false, Result, Ok, Err, IsOkAnd, IsErrOf, refl, ap, if◌then◌else◌}
use Rattle.block_buffers.specs.Disks.{Disk}
use Rattle.memory.specs.Bytes.{cell}
use Rattle.memory.specs.declared.system.TheConstants.{FAULT}
use Rattle.machine_parts.specs.Whole.{Whole}
use Rattle.machine_parts.specs.Row.{After}
use Rattle.machine_parts.specs.declared.parts.Request.{Request}
use Rattle.machine.specs.declared.act.Act.{Act}
use Rattle.machine.specs.declared.act.Cause.{Cause}
use Rattle.machine.specs.declared.act.Cause.TheVariants as cause
use Rattle.machine.specs.declared.act.Refused.{Refused}
use Rattle.machine.specs.declared.act.Refused.TheVariants.{NotAsked}
use Rattle.machine.specs.declared.act.Shown.{Shown}
use Rattle.inner_interpreter.specs.declared.stop.Stop.{Stop}
use Rattle.inner_interpreter.specs.declared.stop.Stop.TheVariants as stop
use Rattle.machine.specs.State.{State}
use Rattle.machine.specs.Tick.{taken, executed, by_fault, concluded, ticked, ran, is_quiet}
use Rattle.machine.specs.Answer as answering
use Rattle.machine.specs.Answer.{Reply, asked_by, is_answer, answered, answer_of, key_answered, line_answered, read_answered, write_answered}
use Rattle.inner_interpreter.specs.Lines.{line_reply}
use Rattle.inner_interpreter.specs.Served.{is_input_fault, HasNotFailed}
use Rattle.inner_interpreter.specs.Runs.{World, Served, served, round, rounds, stops, stop_by, next_by}
use Rattle.inner_interpreter.specs.Worlds.{stretch}
use Rattle.inner_interpreter.proofs.Shapes.{either, by_answer}

-- it did not halt for a failed reader
abbrev HasRead : State → Type 0
HasRead s = s.halt ≢ Some cause.InputFault

as_test : (c : Option Cause) → c ≢ Some cause.InputFault → is_input_fault c ≡ false
unfolding is_input_fault
as_test c h = search rules

fault_read : (s : Whole) (shown : Shown) (f : ℕ) → HasRead (by_fault s shown f).0
unfolding by_fault
fault_read s shown f = either HasRead (cell s.memory FAULT == 0) _ _ (λ q. cc) (λ q. cc)

concluded_read : (w : ℕ) (x : After) → HasRead (concluded w x).0
unfolding concluded
concluded_read w x = search (rules, fault_read)

ticked_read : (s : Whole) → HasRead (ticked s).0
unfolding ticked
ticked_read s = concluded_read (taken s).0 (executed (taken s).0 (taken s).1)

answered_read : (s : Whole) (p : Request × ℕ) (reply : Reply) → reply ≢ answering.InputFault → HasRead (answered s p reply).0
unfolding answered key_answered line_answered read_answered write_answered
answered_read s p reply n = search (rules, either, fault_read)

pub answer_read : (s : State) (reply : Reply) → HasRead s → reply ≢ answering.InputFault → HasRead (answer_of s reply).0
answer_read s reply h n = by_answer HasRead s reply (λ p q. answered_read s.parts p reply n) (λ q. h)

-- whether a reply reports a failed reader
abbrev pub tells_fault : Reply → Bool
tells_fault answering.InputFault = true
tells_fault _ = false

not_told : (reply : Reply) → tells_fault reply ≡ false → reply ≢ answering.InputFault
not_told reply h q = let no : tells_fault reply ≡ true = ap tells_fault q in cc

pub told_read : (old new : State) (act : Act) (reply : Reply) → old.halt ≡ None → (new, act) ≡ answer_of old reply → tells_fault reply ≡ false → HasNotFailed new
told_read old new act reply h q k = search (rules, as_test, answer_read, not_told)

-- an answer that was taken, and reports no failed reader
pub told_ok : (old new : State) (reply : Reply) (r : Result Act Refused) (x : Act) → old.halt ≡ None
    → (old.halt ≡ None → is_answer (asked_by old.wait) reply ≡ true → IsOkAnd r (λ act. (new, act) ≡ answer_of old reply))
    → (old.halt ≡ None → is_answer (asked_by old.wait) reply ≡ false → IsErrOf r NotAsked)
    → r ≡ Ok x → tells_fault reply ≡ false → HasNotFailed new
told_ok old new reply r x h done refused e k = by_fits (is_answer (asked_by old.wait) reply) refl where
  taken_so : (r : Result Act Refused) → IsOkAnd r (λ act. (new, act) ≡ answer_of old reply) → HasNotFailed new
  taken_so (Ok act) q = told_read old new act reply h q k
  taken_so (Err refusal) q = absurd q

  not_err : (r : Result Act Refused) → r ≡ Ok x → IsErrOf r NotAsked → HasNotFailed new
  not_err (Ok act) q n = cc
  not_err (Err refusal) q n = cc

  by_fits : (b : Bool) → is_answer (asked_by old.wait) reply ≡ b → HasNotFailed new
  by_fits true q = taken_so r (done h q)
  by_fits false q = not_err r e (refused h q)

-- a line that was typed is no failure
line_is_typed : (bytes : List ℕ) (returned : Bool) → line_reply bytes returned ≢ answering.InputFault
line_is_typed bytes returned q = search rules

ran_read : (n k : ℕ) (s : Whole) → HasRead (ran k n s).1
unfolding ran
ran_read zero k s = λ q. cc
ran_read (suc n) k s = by_quiet (is_quiet (ticked s).1) (ran_read n (k + 1) (ticked s).0.parts) where
  by_quiet : (b : Bool) → HasRead (ran (k + 1) n (ticked s).0.parts).1
      → HasRead (if b then ran (k + 1) n (ticked s).0.parts else (k + 1, (ticked s).0, (ticked s).1)).1
  by_quiet true rest = rest
  by_quiet false rest = ticked_read s

pub stretch_read : (n : ℕ) (s t : State) → t ≡ (stretch n s).1 → HasNotFailed t
stretch_read n s t e = rw e (as_test (stretch n s).1.halt (ran_read n 0 s.parts))

pub went_read : (count : ℕ) (s t : State) (act : Act) → (count, t, act) ≡ ran 0 count s.parts → HasNotFailed t
went_read count s t act is = stretch_read count s t (ap (λ (r : ℕ × State × Act). r.1) is)

read_reply : (b : Bool) (page : List ℕ) → (if b then answering.ReadOk page else answering.ReadFault) ≢ answering.InputFault
read_reply b page q = search rules

write_reply : (b : Bool) (x y : Served) → x.reply ≡ answering.WriteOk → y.reply ≡ answering.WriteFault → (if b then x else y).reply ≢ answering.InputFault
write_reply b x y h k q = search rules

served_read : (s : State) (r : Request) (typed : List ℕ) (disk : Disk) → (served s r typed disk).reply ≢ answering.InputFault
served_read s r typed disk q = search (rules, line_is_typed, read_reply, write_reply)

round_read : (w : World) → HasRead w.state → HasRead (round w).state
unfolding round
round_read w h = search (rules, ticked_read, answer_read, served_read)

rounds_read : (n : ℕ) (w : World) → HasRead w.state → HasRead (rounds n w).state
unfolding rounds
rounds_read zero w h = h
rounds_read (suc n) w h = by_stop (stops (rounds n w)) (rounds_read n w h) where
  by_stop : (o : Option Stop) → HasRead (rounds n w).state → HasRead (next_by (rounds n w) o).state
  by_stop None k = round_read (rounds n w) k
  by_stop (Some s) k = k

stop_read : (c : Option Cause) (left : ℕ) → c ≢ Some cause.InputFault → stop_by c left ≢ Some stop.InputFault
stop_read c left h q = search rules

pub input_fault_law : (w : World) (n : ℕ) → w.state.halt ≢ Some cause.InputFault → stops (rounds n w) ≢ Some stop.InputFault
input_fault_law w n h = stop_read (rounds n w).state.halt (rounds n w).left (rounds_read n w h)
