use Rattle.memory.specs.Mirrored.{stored}
use Rattle.std.proofs.Common.{◌≡◌, reverse}
use Rattle.number_text.specs.Digits.{expansion}
use Rattle.number_text.specs.Picture.{put_down}
use Rattle.number_text.proofs.picture.put_digits.Given as goal

abbrev pub invariant-loop-rest : goal.invariant-loop-rest
invariant-loop-rest l = put_down (stored l.memory) l.place (reverse (expansion l.base l.rest)) ≡ put_down (stored l.fn.memory) l.end (reverse (expansion l.base l.number))

abbrev pub decreases-loop-rest : goal.decreases-loop-rest
decreases-loop-rest l = l.rest
