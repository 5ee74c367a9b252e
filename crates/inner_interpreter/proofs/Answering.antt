-- Requests that were answered.
use Rattle.std.proofs.Common.{◌≡◌, List, ℕ, Option}
use Rattle.block_buffers.specs.Disks.{Disk}
use Rattle.machine_parts.specs.declared.parts.Request.{Request}
use Rattle.machine.specs.declared.act.Act.{Act}
use Rattle.machine.specs.State.{State}
use Rattle.inner_interpreter.specs.Served.{Serves}

pub serves_with : (s : State) (r r' : Request) (typed : List ℕ) (disk : Disk) (after : State) (unread unread' : Option (List ℕ)) (left : Option Disk) (act : Act)
    → r ≡ r' → unread ≡ unread' → Serves s r' typed disk after unread' left act → Serves s r typed disk after unread left act
serves_with s r r' typed disk after unread unread' left act e f h = rw (e, f) h
