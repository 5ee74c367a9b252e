use Rattle.std.proofs.Common.{◌≤◌, take}
use Rattle.serving.proofs.Storing.{HaveSaved}
use Rattle.serving.proofs.saving.save.Given as goal

-- the first buffers are saved
abbrev pub invariant-loop-place : goal.invariant-loop-place
invariant-loop-place g l = record {
  saved : HaveSaved l.count l.fn.machine.parts (take l.place l.fn.machine.parts.buffers) (g.D.Device.calls l.fn.device) (g.D.Device.calls l.device) l.lost;
  few : l.lost ≤ l.place;
}
