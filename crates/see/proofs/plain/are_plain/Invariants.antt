use Rattle.std.proofs.Common.{take, map}
use Rattle.std.specs.Prelude.{slice_index}
use Rattle.see.specs.Parts.{token_in}
use Rattle.see.proofs.Showing.{Plainly}
use Rattle.see.proofs.plain.are_plain.Given as goal

abbrev pub invariant-loop-word : goal.invariant-loop-word
invariant-loop-word l = Plainly (slice_index l.runtime) l.half (map (token_in l.bytes) (take l.word-index l.words))
