use Rattle.std.proofs.Common.{◌+◌, refl}
use Rattle.see.specs.Parts.{token_in}
use Rattle.colon_bodies.specs.declared.words.BodyWord.TheVariants as w
use Rattle.see.specs.declared.parts.Part.TheVariants as part
use Rattle.see.proofs.Growing.{does_seen}
use Rattle.see.proofs.structures.take_does.Goals as goal

pub returns-clause-taken : goal.returns-clause-taken
returns-clause-taken c = λ bytes at n f g b d s e.
    (refl, does_seen (token_in bytes) at f g b d c.args.here (c.args.here + 2) _ _ (part.Word w.Does) n _ _ refl s refl c.push_reserved-2.ensures.items c.push_reserved.ensures.items e)
