use Rattle.std.proofs.Common.{◌+◌, refl}
use Rattle.see.specs.Parts.{token_in}
use Rattle.colon_bodies.specs.declared.words.BodyWord.TheVariants as w
use Rattle.see.specs.declared.parts.Part.TheVariants as part
use Rattle.see.proofs.Growing.{do_seen}
use Rattle.see.proofs.structures.take_do.Goals as goal

pub returns-clause-taken : goal.returns-clause-taken
returns-clause-taken c = λ bytes at to n f g b d s e.
    (refl, do_seen (token_in bytes) at f g b d c.args.here (c.args.here + 4) _ _ (part.Word w.Do) n _ _ refl s refl c.push_reserved-2.ensures.items c.push_reserved.ensures.items e)
