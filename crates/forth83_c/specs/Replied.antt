-- What a call answers and leaves that obeys a request of a server's host.
use Rattle.std.specs.Prelude.{◌≡◌, ◌≤◌, ◌<◌, ℕ, List, [], ◌++◌, min, length, take, drop, true, Some}
use Rattle.machine.specs.State.{State}
use Rattle.serving.specs.Requests.{Wish}
use Rattle.serving.specs.Served.{MayObey}
use Rattle.forth83_c.specs.declared.record.Forth83.{Forth83}
use Rattle.forth83_c.specs.declared.status.Status.{Status}
use Rattle.forth83_c.specs.declared.status.Status.TheVariants as status
use Rattle.forth83_c.specs.Kept.{IsKept, IsRecord, SameBeside}

-- a room with a reply at its front, or with the reply's front
unfoldable pub filled : (room reply : List ℕ) → List ℕ
filled room reply = take (length room) reply ++ drop (length reply) room

-- a size as a host is given it
unfoldable pub size_as : ℕ → ℕ
size_as n = min n 18446744073709551615

-- a machine obeyed this request as a server over no blocks does; the reply is in the room, as far as it fits
pub record IsReplied (w : Wish) (s t : State) (room room' : List ℕ) (size : ℕ) : Type 0 where
  pub reply : List ℕ
  pub obeyed : MayObey 0 w true s t [] [] (Some []) (Some reply)
  pub put : room' ≡ filled room reply
  pub size_is : size ≡ size_as (length reply)

-- it is the machine that the record kept, and the record keeps what the request left
pub record HasReplied (old new : Forth83) (w : Wish) (room room' : List ℕ) (size : ℕ) : Type 0 where
  pub before : State
  pub after : State
  pub was_kept : IsKept old before
  pub is_kept : IsKept new after
  pub beside : SameBeside old new
  pub replied : IsReplied w before after room room' size

-- the reply is in the room, or is longer than the room; or the record keeps no machine
abbrev pub TellsReplied : (size room : ℕ) → Forth83 → Status → Type 0
TellsReplied size room k status.Done = IsRecord k × (size ≤ room)
TellsReplied size room k status.LongReply = IsRecord k × (room < size)
TellsReplied size room k status.NoMachine = ¬ IsRecord k
TellsReplied size room k _ = ⊥
