use Rattle.std.proofs.Common.{◌≡◌, drop}
use Rattle.advice.specs.Near.{differs_once}
use Rattle.advice.proofs.near.same_letters.Given as goal

abbrev pub invariant-loop-place : goal.invariant-loop-place
invariant-loop-place l = differs_once l.one l.other ≡ differs_once (drop l.place l.one) (drop l.place l.other)
