use Rattle.std.proofs.Common.{◌+◌, refl}
use Rattle.see.specs.Parts.{token_in}
use Rattle.colon_bodies.specs.declared.words.BodyWord.TheVariants as w
use Rattle.see.specs.declared.parts.Part.TheVariants as part
use Rattle.see.proofs.Growing.{else_seen}
use Rattle.see.proofs.structures.take_else.Goals as goal

pub returns-in-Some-If-clause-taken : goal.returns-in-Some-If-clause-taken
returns-in-Some-If-clause-taken c = λ bytes at n f g b d s e.
    (refl, else_seen (token_in bytes) at f g b d c.args.here c.args.to (c.args.here + 4) _ _ (part.Word w.Else) n _ _ _ refl s refl c.push_reserved-in-Some-If.ensures.items (c.pop_frame.ensures.top at f s.frames_are).1 c.push_reserved.ensures.items e)
