use Rattle.std.proofs.Common.{◌≡◌, ◌+◌, take, map}
use Rattle.colon_bodies.specs.Tokens.{laid}
use Rattle.see.specs.Parts.{token_in}
use Rattle.see.proofs.thread.fits.Given as goal

abbrev pub invariant-loop-word : goal.invariant-loop-word
invariant-loop-word l = laid (map (token_in l.bytes) (take l.word-index l.words)) + l.left ≡ l.most
