-- A machine that was loaded.
use Rattle.std.proofs.Common.{rules, ◌≡◌, ap, length, ℕ, List, Option, Some}
use Rattle.std.specs.Prelude.{IfSome}
use Rattle.block_buffers.specs.Disks.{Disk}
use Rattle.image_loader.specs.Files.{Contents}
use Rattle.inner_interpreter.specs.Served.{is_input_fault, HasNotFailed}
use Rattle.machine.specs.State.{State, loaded_state}
use Rattle.inner_interpreter.specs.Worlds.{IsAt, loaded}

-- it is where the world of its image begins
pub loaded_at : (image : Contents) (s : State) (count limit : ℕ) (unread : Option (List ℕ)) (disk : Option Disk) (sent : Option (List ℕ)) (typed : List ℕ) (d : Disk) (shown : List ℕ)
    → s ≡ loaded_state image count → IfSome disk (λ x. count ≡ length x.blocks) → unread ≡ Some typed → disk ≡ Some d → sent ≡ Some shown
    → IsAt (loaded image typed d shown limit) s unread disk sent limit
loaded_at image s count limit unread disk sent typed d shown is told u k t = search rules

pub start_not_failed : (image : Contents) (s : State) (count : ℕ) → s ≡ loaded_state image count → HasNotFailed s
unfolding is_input_fault
start_not_failed image s count is = ap (λ (x : State). is_input_fault x.halt) is
