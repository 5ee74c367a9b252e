-- A request that was answered.
use Rattle.std.specs.Prelude.{◌≡◌, ℕ, true, false, Bool, List, ◌++◌, Option, Some, Result, Ok, Err}
use Rattle.inner_interpreter.specs.declared.ends.EndFault.{EndFault}
use Rattle.block_buffers.specs.Disks.{Disk}
use Rattle.machine_parts.specs.declared.parts.Request.{Request}
use Rattle.machine.specs.declared.act.Act.{Act}
use Rattle.machine.specs.declared.act.Cause.{Cause}
use Rattle.machine.specs.declared.act.Cause.TheVariants.{InputFault as InputFaulted}
use Rattle.machine.specs.State.{State}
use Rattle.machine.specs.Answer.{Reply, InputFault, answer_of, asked_by, is_answer}
use Rattle.inner_interpreter.specs.Moves.{Move, answer_move, Answer, Accepts, device_call}
use Rattle.block_buffers.specs.DeviceCalls.{DeviceCall}
use Rattle.inner_interpreter.specs.Reads.{IsGiven}
use Rattle.inner_interpreter.specs.Runs.{served}

-- the request was answered from these typed bytes and this device
pub record Serves (s : State) (r : Request) (typed : List ℕ) (disk : Disk) (after : State) (unread : Option (List ℕ)) (left : Option Disk) (act : Act) : Type 0 where
  pub answers : (after, act) ≡ answer_of s (served s r typed disk).reply
  pub unread_is : unread ≡ Some (served s r typed disk).typed
  pub disk_is : left ≡ Some (served s r typed disk).disk

-- the move of such an answer
abbrev pub served_move : State → Request → List ℕ → Disk → Move
served_move s r typed disk = answer_move s (served s r typed disk).reply

-- the same, without what was shown
pub record Answered (s : State) (r : Request) (typed : List ℕ) (disk : Disk) (after : State) (unread : Option (List ℕ)) (left : Option Disk) : Type 0 where
  pub state_is : after ≡ (served_move s r typed disk).state
  pub unread_is : unread ≡ Some (served s r typed disk).typed
  pub disk_is : left ≡ Some (served s r typed disk).disk

-- of what the reader and the device hold, if they report it
abbrev pub WhereTold : Option (List ℕ) → Option Disk → (List ℕ → Disk → Type 0) → Type 0
WhereTold unread disk holds = (typed : List ℕ) → unread ≡ Some typed → (d : Disk) → disk ≡ Some d → holds typed d

-- the request was answered from that, and the bytes that this shows were sent so
abbrev pub AnswersAndSends : State → Request → Option (List ℕ) → Option Disk → State → Option (List ℕ) → Option Disk → (List ℕ → Type 0) → Type 0
AnswersAndSends s r unread disk after left_unread left sends =
    WhereTold unread disk (λ typed d. Answered s r typed d after left_unread left × sends (served_move s r typed d).bytes)

-- the reader failed, and the machine learned of it
pub record Faults (s after : State) : Type 0 where
  pub asked : is_answer (asked_by s.wait) InputFault ≡ true
  pub state_is : after ≡ (answer_of s InputFault).0

-- the same, and it learned of it by an answer that it accepted; the device was given no call
pub record HasFaulted (old new : State) (calls calls' : List DeviceCall) (reads reads' : List (Option ℕ)) : Type 0 where
  pub accepted : Accepts old (Answer InputFault)
  pub state_is : new ≡ (answer_of old InputFault).0
  pub calls_are : calls' ≡ calls
  pub given : List (Option ℕ)
  pub reads_are : reads' ≡ reads ++ given
  pub is_given : IsGiven (asked_by old.wait) InputFault given

-- whether a machine halted for a failed reader
unfoldable pub is_input_fault : Option Cause → Bool
is_input_fault (Some InputFaulted) = true
is_input_fault _ = false

-- the machine did not halt for a failed reader
abbrev pub HasNotFailed : State → Type 0
HasNotFailed s = is_input_fault s.halt ≡ false

-- the machine was given an answer that it accepted; if it comes from a call of the device, the device was given that
-- call, which failed exactly if the machine learned of it; and if it comes from the reader, the reader gave it
pub record HasActed (old new : State) (calls calls' : List DeviceCall) (reads reads' : List (Option ℕ)) (act : Act) : Type 0 where
  pub reply : Reply
  pub accepted : Accepts old (Answer reply)
  pub acts : (new, act) ≡ answer_of old reply
  pub calls_are : calls' ≡ calls ++ device_call old (Answer reply)
  pub given : List (Option ℕ)
  pub reads_are : reads' ≡ reads ++ given
  pub is_given : IsGiven (asked_by old.wait) reply given

-- a request was settled: with an act, or the machine learned that the reader failed
abbrev pub HasSettled : (old new : State) → (calls calls' : List DeviceCall) → (reads reads' : List (Option ℕ)) → Result Act EndFault → Type 0
HasSettled old new calls calls' reads reads' (Ok act) = HasActed old new calls calls' reads reads' act
HasSettled old new calls calls' reads reads' (Err fault) = HasFaulted old new calls calls' reads reads'
