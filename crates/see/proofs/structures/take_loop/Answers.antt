use Rattle.std.proofs.Common.{refl}
use Rattle.see.specs.Parts.{token_in}
use Rattle.colon_bodies.specs.declared.words.BodyWord.TheVariants as w
use Rattle.see.specs.declared.parts.Part.TheVariants as part
use Rattle.see.proofs.Growing.{loop_seen}
use Rattle.see.proofs.structures.take_loop.Goals as goal

pub returns-in-Some-Do-clause-taken : goal.returns-in-Some-Do-clause-taken
returns-in-Some-Do-clause-taken c = λ bytes at here to n f g b d s e.
    (refl, loop_seen (token_in bytes) at f g b d here c.args.plus _ _ (part.Word (w.Loop c.args.plus)) n _ _ refl s c.push_reserved.ensures.items (c.pop_frame.ensures.top at f s.frames_are).1 e)
