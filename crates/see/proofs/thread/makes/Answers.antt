use Rattle.std.proofs.Common.{◌∙◌, arith}
use Rattle.std.specs.Prelude.{slice_index}
use Rattle.see.specs.Parts.{token_in}
use Rattle.colon_bodies.proofs.Taking.{false_test}
use Rattle.colon_bodies.proofs.Whole.{map_length}
use Rattle.see.proofs.Showing.{compiles_to, compiles_well, thread_laid}
use Rattle.see.proofs.thread.makes.Goals as goal

pub returns-then-used-words-clause-no : goal.returns-then-used-words-clause-no
returns-then-used-words-clause-no c = λ d k e h.
    let x = compiles_to (slice_index c.args.runtime.now) c.args.at 65535 _ _ _ d c.in-Ok.ensures.compiled e in
    c.is_same.ensures.1 (c.deref.ensures.value ∙ x.1 ∙ h)

pub returns-else-used-words-clause-no : goal.returns-else-used-words-clause-no
returns-else-used-words-clause-no c = λ d k e h.
    let x = compiles_to (slice_index c.args.runtime.now) c.args.at 65535 _ _ _ d c.in-Ok.ensures.compiled e in
    absurd (c.if-used-words.false (x.0 ∙ map_length (token_in c.args.bytes.now) c.args.words.now))

pub returns-in-Err-clause-no : goal.returns-in-Err-clause-no
returns-in-Err-clause-no c = λ d k e h.
    absurd (c.in-Err.ensures.shallow (omega (arith, c.fits.ensures.0 c.if-not-fits.false, c.requires.room.0)) (omega (arith, c.requires.room.1)) (compiles_well (slice_index c.args.runtime.now) c.args.at 65535 _ _ _ d k e c.in-Err.ensures.refused))

pub returns-then-not-fits-clause-no : goal.returns-then-not-fits-clause-no
returns-then-not-fits-clause-no c = λ d k e h.
    absurd (false_test _ _ c.fits.ensures c.if-not-fits.true (thread_laid (slice_index c.args.runtime.now) c.args.at c.args.bytes.now d _ e h))
